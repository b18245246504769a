use Rattle.law_world.proofs.lemmas.steps.Joining.{each_only, pipes_are_streams, harvested_taken}
use Rattle.law_world.proofs.steps.row_laws.pipes_and_reports_are_streams.Goals as goal

pub returns : goal.returns
returns g c = record { only = each_only; joined = pipes_are_streams; taken = harvested_taken }
