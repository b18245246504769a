use Rattle.law_controller.proofs.lemmas.controlled_streams.Beginning.{ends_with_one, pipes_with_one, reports_with_one, unopened_less_one}
use Rattle.law_controller.proofs.controlled_streams.opened_laws.a_stream_begins.Goals as goal

pub returns : goal.returns
returns g c = record { ends = ends_with_one; pipes = pipes_with_one; reports = reports_with_one; unopened = unopened_less_one }
