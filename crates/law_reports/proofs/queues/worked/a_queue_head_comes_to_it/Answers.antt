use Rattle.law_reports.proofs.lemmas.queues.Sampled.{key_comes}
use Rattle.law_reports.proofs.queues.worked.a_queue_head_comes_to_it.Goals as goal

pub returns : goal.returns
returns c = key_comes
