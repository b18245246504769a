use Rattle.law_reports.proofs.lemmas.queues.Sampled.{ended_comes_to_none}
use Rattle.law_reports.proofs.queues.worked.one_that_ends_comes_to_none.Goals as goal

pub returns : goal.returns
returns c = ended_comes_to_none
