use Rattle.law_world.proofs.lemmas.memory.lemmas.framed_memory.Awaiting.{events_keep_awaiting, writes_keep_awaiting}
use Rattle.law_world.proofs.lemmas.memory.lemmas.framed_memory.TakenOn.{commands_keep_awaiting}
use Rattle.law_world.proofs.memory.framed_memory.lend_laws.descriptors_await_their_lend.Goals as goal

pub returns : goal.returns
returns c = record { commands = commands_keep_awaiting; events = events_keep_awaiting; writes = writes_keep_awaiting }
