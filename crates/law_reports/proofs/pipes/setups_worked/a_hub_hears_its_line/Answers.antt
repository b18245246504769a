use Rattle.law_reports.proofs.lemmas.pipes.lemmas.hub_setups.Sampled.{port_asked}
use Rattle.law_reports.proofs.pipes.setups_worked.a_hub_hears_its_line.Goals as goal

pub returns-clause-its : goal.returns-clause-its
returns-clause-its c = port_asked
