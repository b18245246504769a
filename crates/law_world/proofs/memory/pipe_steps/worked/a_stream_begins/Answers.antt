use Rattle.law_world.proofs.lemmas.memory.lemmas.pipe_steps.Sampled.{begins}
use Rattle.law_world.proofs.memory.pipe_steps.worked.a_stream_begins.Goals as goal

pub returns : goal.returns
returns c = begins
