use Rattle.law_controller.proofs.lemmas.controlled_streams.Returning.{pipes_stay}
use Rattle.law_controller.proofs.controlled_streams.return_laws.pipes_stay.Goals as goal

pub returns : goal.returns
returns g c = pipes_stay
