use Rattle.law_controller.proofs.lemmas.controlled_streams.Reporting.{reported_begins}
use Rattle.law_controller.proofs.controlled_streams.report_laws.what_is_reported_begins_the_stream.Goals as goal

pub returns : goal.returns
returns g c = reported_begins
