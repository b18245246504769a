use Rattle.law_driver.proofs.lemmas.iso_frames.Due.{events_keep_the_frames}
use Rattle.law_driver.proofs.iso_frames.laws.events_keep_the_frames.Goals as goal

pub returns : goal.returns
returns c = events_keep_the_frames
