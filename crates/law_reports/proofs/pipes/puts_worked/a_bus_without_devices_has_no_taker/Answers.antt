use Rattle.law_reports.proofs.lemmas.pipes.lemmas.puts.Sampled.{lone_takers}
use Rattle.law_reports.proofs.pipes.puts_worked.a_bus_without_devices_has_no_taker.Goals as goal

pub returns : goal.returns
returns c = lone_takers
