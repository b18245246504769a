use Rattle.law_world.proofs.lemmas.memory.lemmas.framed_memory.Numbering.{new_is_numbered, events_keep_numbered, commands_keep_numbered}
use Rattle.law_world.proofs.memory.framed_memory.command_laws.numbers_go_on_fitting.Goals as goal

pub returns : goal.returns
returns c = record { opening = new_is_numbered; events = events_keep_numbered; commands = commands_keep_numbered }
