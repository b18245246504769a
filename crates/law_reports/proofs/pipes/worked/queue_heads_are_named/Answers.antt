use Rattle.law_reports.proofs.lemmas.pipes.Sampled.{real_names, longer_names}
use Rattle.law_reports.proofs.pipes.worked.queue_heads_are_named.Goals as goal

pub returns-clause-real : goal.returns-clause-real
returns-clause-real c = real_names

pub returns-clause-longer : goal.returns-clause-longer
returns-clause-longer c = longer_names
