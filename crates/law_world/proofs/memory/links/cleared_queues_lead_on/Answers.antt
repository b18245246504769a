use Rattle.law_world.proofs.lemmas.memory.LeftCommands.{command_keeps_cleared, controller_keeps_cleared}
use Rattle.law_world.proofs.lemmas.memory.LeftLinks.{driver_keeps_cleared}
use Rattle.law_world.proofs.memory.links.cleared_queues_lead_on.Goals as goal

pub returns : goal.returns
returns c = record { driver = driver_keeps_cleared; command = command_keeps_cleared; controller = controller_keeps_cleared }
