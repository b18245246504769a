use Rattle.law_controller.proofs.lemmas.controlled_streams.Beginning.{ends_with_other, pipes_with_other, reports_with_other, unopened_with_other}
use Rattle.law_controller.proofs.controlled_streams.opened_laws.another_begins.Goals as goal

pub returns : goal.returns
returns g c = record { ends = ends_with_other; pipes = pipes_with_other; reports = reports_with_other; unopened = unopened_with_other }
