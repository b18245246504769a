use Rattle.law_world.proofs.lemmas.memory.FrameOnce.{texts_leave_frames_leading}
use Rattle.law_world.proofs.memory.links.texts_leave_frames_leading.Goals as goal

pub returns : goal.returns
returns c = texts_leave_frames_leading
