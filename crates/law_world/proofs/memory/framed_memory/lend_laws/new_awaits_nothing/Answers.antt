use Rattle.law_world.proofs.lemmas.memory.lemmas.framed_memory.Awaiting.{new_awaits_nothing}
use Rattle.law_world.proofs.memory.framed_memory.lend_laws.new_awaits_nothing.Goals as goal

pub returns : goal.returns
returns c = new_awaits_nothing
