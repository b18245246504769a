use Rattle.law_world.proofs.lemmas.steps.lemmas.world_bytes.Hearing.{a_bus_of_bytes_is_heard_as_bytes}
use Rattle.law_world.proofs.steps.world_bytes.laws.a_bus_of_bytes_is_heard_as_bytes.Goals as goal

pub returns : goal.returns
returns c = a_bus_of_bytes_is_heard_as_bytes
