use Rattle.law_reports.proofs.lemmas.pipes.lemmas.hub_setups.Sampled.{other_set_up}
use Rattle.law_reports.proofs.pipes.setups_worked.a_queue_sets_up_its_bytes.Goals as goal

pub returns-clause-other : goal.returns-clause-other
returns-clause-other c = other_set_up
