use Rattle.law_world.proofs.lemmas.memory.lemmas.framed_memory.ChosenFrames.{frames_keep_now}
use Rattle.law_world.proofs.memory.framed_memory.row_laws.frames_keep_now.Goals as goal

pub returns : goal.returns
returns c = frames_keep_now
