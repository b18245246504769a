use Rattle.std.proofs.Common.{refl}
use Rattle.std.specs.Fmt.{digits}
use Rattle.script_load.proofs.worked.lines.Goals as goal

pub returns-clause-high : goal.returns-clause-high
unfolding digits
returns-clause-high c = refl

pub returns-clause-first_hub : goal.returns-clause-first_hub
unfolding digits
returns-clause-first_hub c = refl

pub returns-clause-second_hub : goal.returns-clause-second_hub
unfolding digits
returns-clause-second_hub c = refl

pub returns-clause-bulk : goal.returns-clause-bulk
unfolding digits
returns-clause-bulk c = refl

pub returns-clause-interrupt : goal.returns-clause-interrupt
unfolding digits
returns-clause-interrupt c = refl

pub returns-clause-reply : goal.returns-clause-reply
unfolding digits
returns-clause-reply c = refl

pub returns-clause-get : goal.returns-clause-get
unfolding digits
returns-clause-get c = refl

pub returns-clause-put : goal.returns-clause-put
unfolding digits
returns-clause-put c = refl
