use Rattle.law_driver.proofs.lemmas.queued_drivers.CommandOpens.{opens_are_of_queues, chains_are_of_queues}
use Rattle.law_driver.proofs.lemmas.queued_drivers.CommandAsks.{transfers_are_of_queues}
use Rattle.law_driver.proofs.queued_drivers.commands.opens_and_transfers_are_of_queues.Goals as goal

pub returns-clause-ring : goal.returns-clause-ring
returns-clause-ring c = opens_are_of_queues

pub returns-clause-frames : goal.returns-clause-frames
returns-clause-frames c = chains_are_of_queues

pub returns-clause-transfers : goal.returns-clause-transfers
returns-clause-transfers c = transfers_are_of_queues
