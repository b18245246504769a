use Rattle.law_queues.proofs.lemmas.mended_heads.Standing.{commands_keep_mends, rows_keep_mends}
use Rattle.law_queues.proofs.mended_heads.laws.commands_and_rows_leave_what_is_owed.Goals as goal

pub returns : goal.returns
returns c = record { commands = commands_keep_mends; rows = rows_keep_mends }
