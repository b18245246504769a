use Rattle.law_driver.proofs.lemmas.queued_drivers.RowOwners.{queued_has_owners}
use Rattle.law_driver.proofs.lemmas.queued_drivers.CommandTurns.{commands_keep_queues}
use Rattle.law_driver.proofs.queued_drivers.commands.commands_keep_queues.Goals as goal

pub returns : goal.returns
returns c = commands_keep_queues queued_has_owners
