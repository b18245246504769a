use Rattle.law_driver.proofs.lemmas.iso_frames.Due.{opening_frames}
use Rattle.law_driver.proofs.iso_frames.laws.opening_frames.Goals as goal

pub returns : goal.returns
returns c = opening_frames
