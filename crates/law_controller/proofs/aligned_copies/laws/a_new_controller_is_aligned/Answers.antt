use Rattle.law_controller.proofs.lemmas.aligned_copies.Controlling.{a_new_controller_is_aligned}
use Rattle.law_controller.proofs.aligned_copies.laws.a_new_controller_is_aligned.Goals as goal

pub returns : goal.returns
returns c = a_new_controller_is_aligned
