use Rattle.law_controller.proofs.lemmas.controlled_streams.Returning.{front_is_returned, passed_has_none}
use Rattle.law_controller.proofs.controlled_streams.return_laws.the_front_stays.Goals as goal

pub returns : goal.returns
returns c = record { front = front_is_returned; passed = passed_has_none }
