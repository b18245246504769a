use Rattle.law_driver.proofs.lemmas.iso_frames.Due.{commands_keep_the_frames}
use Rattle.law_driver.proofs.iso_frames.laws.commands_keep_the_frames.Goals as goal

pub returns : goal.returns
returns c = commands_keep_the_frames
