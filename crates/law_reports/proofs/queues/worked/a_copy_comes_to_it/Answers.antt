use Rattle.law_reports.proofs.lemmas.queues.Sampled.{copy_comes}
use Rattle.law_reports.proofs.queues.worked.a_copy_comes_to_it.Goals as goal

pub returns-clause-held : goal.returns-clause-held
returns-clause-held c = copy_comes.0

pub returns-clause-works : goal.returns-clause-works
returns-clause-works c = copy_comes.1
