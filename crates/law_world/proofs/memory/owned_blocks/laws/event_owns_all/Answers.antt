use Rattle.law_world.proofs.lemmas.memory.lemmas.owned_blocks.Events.{event_owns_all}
use Rattle.law_world.proofs.memory.owned_blocks.laws.event_owns_all.Goals as goal

pub returns : goal.returns
returns c = event_owns_all
