use Rattle.law_reports.proofs.lemmas.pipes.Sampled.{tells_names, tells_none}
use Rattle.law_reports.proofs.pipes.worked.descriptors_are_named.Goals as goal

pub returns-clause-told : goal.returns-clause-told
returns-clause-told c = tells_names

pub returns-clause-untold : goal.returns-clause-untold
returns-clause-untold c = tells_none
