use Rattle.law_driver.proofs.lemmas.queued_drivers.CommandTurns.{commands_are_of_queues}
use Rattle.law_driver.proofs.queued_drivers.commands.commands_are_of_queues.Goals as goal

pub returns : goal.returns
returns c = commands_are_of_queues
