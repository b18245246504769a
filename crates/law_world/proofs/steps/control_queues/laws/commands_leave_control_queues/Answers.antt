use Rattle.law_world.proofs.lemmas.steps.lemmas.control_queues.Beside.{same_keep_controls, commands_keep_controls, silent_keeps_controls}
use Rattle.law_world.proofs.steps.control_queues.laws.commands_leave_control_queues.Goals as goal

pub returns : goal.returns
returns c = record { same = same_keep_controls; commands = commands_keep_controls; silent = silent_keeps_controls }
