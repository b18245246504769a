use Rattle.law_world.proofs.lemmas.memory.lemmas.pipe_steps.Sampled.{left_out, turned}
use Rattle.law_world.proofs.memory.pipe_steps.worked.a_stream_left_out_is_asked.Goals as goal

pub returns : goal.returns
returns c = record { left = left_out; turned = turned }
