use Rattle.law_controller.proofs.lemmas.frame_stores.Beside.{begin_is_at_element}
use Rattle.law_controller.proofs.frame_stores.both.begin_is_at_element.Goals as goal

pub returns : goal.returns
returns c = begin_is_at_element
