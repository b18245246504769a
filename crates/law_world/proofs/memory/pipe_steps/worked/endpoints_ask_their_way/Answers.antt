use Rattle.law_world.proofs.lemmas.memory.lemmas.pipe_steps.Sampled.{both_ways, no_ways}
use Rattle.law_world.proofs.memory.pipe_steps.worked.endpoints_ask_their_way.Goals as goal

pub returns : goal.returns
returns c = record { streams = both_ways; none = no_ways }
