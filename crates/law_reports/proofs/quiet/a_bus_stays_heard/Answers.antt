use Rattle.law_reports.proofs.lemmas.quiet.BusEvents.{ask_keeps_bus, begin_keeps_bus, opening_keeps_bus}
use Rattle.law_reports.proofs.quiet.a_bus_stays_heard.Goals as goal

pub returns-clause-opening : goal.returns-clause-opening
returns-clause-opening c = opening_keeps_bus

pub returns-clause-ask : goal.returns-clause-ask
returns-clause-ask c = ask_keeps_bus

pub returns-clause-begin : goal.returns-clause-begin
returns-clause-begin c = begin_keeps_bus
