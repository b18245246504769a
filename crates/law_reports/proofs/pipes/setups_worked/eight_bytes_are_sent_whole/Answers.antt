use Rattle.law_reports.proofs.lemmas.pipes.lemmas.hub_setups.Sampled.{other_sent}
use Rattle.law_reports.proofs.pipes.setups_worked.eight_bytes_are_sent_whole.Goals as goal

pub returns-clause-other : goal.returns-clause-other
returns-clause-other c = other_sent
