use Rattle.law_driver.proofs.lemmas.iso_frames.Due.{an_endpoint_has_one_descriptor_a_frame}
use Rattle.law_driver.proofs.iso_frames.laws.an_endpoint_has_one_descriptor_a_frame.Goals as goal

pub returns : goal.returns
returns c = an_endpoint_has_one_descriptor_a_frame
