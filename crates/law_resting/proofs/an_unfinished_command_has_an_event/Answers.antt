use Rattle.law_resting.proofs.Making.{new_driver_is_making, events_keep_making, commands_keep_making}
use Rattle.law_resting.proofs.an_unfinished_command_has_an_event.Goals as goal

pub returns : goal.returns
returns c = record { new = new_driver_is_making; events = events_keep_making; commands = commands_keep_making }
