use Rattle.law_reports.proofs.lemmas.queues.Sampled.{key_unfinished, key_read}
use Rattle.law_reports.proofs.queues.worked.a_get_is_unfinished.Goals as goal

pub returns-clause-unfinished : goal.returns-clause-unfinished
returns-clause-unfinished c = key_unfinished

pub returns-clause-queue : goal.returns-clause-queue
returns-clause-queue c = key_read
