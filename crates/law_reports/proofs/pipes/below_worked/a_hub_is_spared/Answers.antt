use Rattle.std.proofs.Common.{refl}
use Rattle.law_reports.proofs.pipes.below_worked.a_hub_is_spared.Goals as goal

pub returns-clause-silence : goal.returns-clause-silence
returns-clause-silence c = refl

pub returns-clause-port : goal.returns-clause-port
returns-clause-port c = refl

pub returns-clause-buffer : goal.returns-clause-buffer
returns-clause-buffer c = refl

pub returns-clause-translator : goal.returns-clause-translator
returns-clause-translator c = refl
