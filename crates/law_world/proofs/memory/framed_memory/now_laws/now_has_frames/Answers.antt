use Rattle.law_world.proofs.lemmas.memory.lemmas.framed_memory.Now.{now_has_frames}
use Rattle.law_world.proofs.memory.framed_memory.now_laws.now_has_frames.Goals as goal

pub returns : goal.returns
returns c = now_has_frames
