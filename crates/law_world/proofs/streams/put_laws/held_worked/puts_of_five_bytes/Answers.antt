use Rattle.std.proofs.Common.{refl}
use Rattle.law_world.specs.streams.put_laws.HeldPuts.{told_before, first_moved}
use Rattle.law_world.proofs.lemmas.streams.lemmas.put_laws.HeldSampled.{sending_holds}
use Rattle.law_world.proofs.streams.put_laws.held_worked.puts_of_five_bytes.Goals as goal

pub returns-clause-held : goal.returns-clause-held
returns-clause-held c = sending_holds

pub returns-clause-before : goal.returns-clause-before
unfolding told_before
returns-clause-before c = refl

pub returns-clause-second : goal.returns-clause-second
unfolding told_before
returns-clause-second c = refl

pub returns-clause-moved : goal.returns-clause-moved
unfolding first_moved
returns-clause-moved c = refl
