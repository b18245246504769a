use Rattle.law_descriptors.proofs.Others.{rows_told, commands_describe, queue_lend_describes}
use Rattle.law_descriptors.proofs.command_laws.others_leave_descriptors.Goals as goal

pub returns : goal.returns
returns c = record { rows = rows_told; commands = commands_describe; lend = queue_lend_describes }
