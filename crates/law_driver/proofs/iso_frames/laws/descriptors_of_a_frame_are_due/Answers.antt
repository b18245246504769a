use Rattle.law_driver.proofs.lemmas.iso_frames.Due.{descriptors_of_a_frame_are_due}
use Rattle.law_driver.proofs.iso_frames.laws.descriptors_of_a_frame_are_due.Goals as goal

pub returns : goal.returns
returns c = descriptors_of_a_frame_are_due
