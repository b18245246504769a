use Rattle.law_microframes.proofs.lemmas.visits.BelongKeeps.{queue_stays, driver_keeps_placed}
use Rattle.law_microframes.proofs.lemmas.visits.BelongCommands.{command_keeps_placed}
use Rattle.law_microframes.proofs.visits.belonging.the_plan_keeps_whose_structures_are_met.Goals as goal

pub returns : goal.returns
returns c = record { driver = driver_keeps_placed; commands = command_keeps_placed; queues = queue_stays }
