use Rattle.law_world.proofs.lemmas.memory.OwnDriver.{driver_leaves_controllers, command_leaves_controllers}
use Rattle.law_world.proofs.memory.owners.others_leave_the_controllers_words.Goals as goal

pub returns-clause-driver : goal.returns-clause-driver
returns-clause-driver c = driver_leaves_controllers

pub returns-clause-command : goal.returns-clause-command
returns-clause-command c = command_leaves_controllers
