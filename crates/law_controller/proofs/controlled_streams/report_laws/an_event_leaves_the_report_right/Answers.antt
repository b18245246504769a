use Rattle.law_controller.proofs.lemmas.controlled_streams.Reporting.{an_event_leaves_the_report_right}
use Rattle.law_controller.proofs.controlled_streams.report_laws.an_event_leaves_the_report_right.Goals as goal

pub returns : goal.returns
returns g c = an_event_leaves_the_report_right g.W.Wire.begins g.W.Wire.transacts
