use Rattle.law_reports.proofs.lemmas.requests.Silent.{row_keeps_silent}
use Rattle.law_reports.proofs.lemmas.requests.SilentCommands.{command_keeps_silent}
use Rattle.law_reports.proofs.requests.told_data.bytes_are_told_of_data_alone.Goals as goal

pub returns : goal.returns
returns c = record { row = row_keeps_silent; command = command_keeps_silent }
