-- The worked controller's addresses are aligned.
use Rattle.std.proofs.Common.{refl}
use Rattle.law_controller.specs.aligned_copies.Aligned.{AreAligned}
use Rattle.law_controller.proofs.lemmas.aligned_copies.Controlling.{a_new_controller_is_aligned}
use Rattle.law_controller.specs.frame_control.Samples.{memory, registers, opening}

pub opening_aligned : AreAligned opening
opening_aligned = a_new_controller_is_aligned registers memory refl
