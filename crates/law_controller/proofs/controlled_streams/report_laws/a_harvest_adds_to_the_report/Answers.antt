use Rattle.law_controller.proofs.lemmas.controlled_streams.Reporting.{a_harvest_adds_to_the_report}
use Rattle.law_controller.proofs.controlled_streams.report_laws.a_harvest_adds_to_the_report.Goals as goal

pub returns : goal.returns
returns c = a_harvest_adds_to_the_report
