use Rattle.std.proofs.Common.{refl}
use Rattle.law_driver.specs.iso_frames.Frames.{waiting_from}
use Rattle.law_driver.proofs.iso_frames.worked.busy.Goals as goal

pub returns-clause-waits : goal.returns-clause-waits
unfolding waiting_from
returns-clause-waits c = refl

pub returns-clause-others : goal.returns-clause-others
unfolding waiting_from
returns-clause-others c = refl
