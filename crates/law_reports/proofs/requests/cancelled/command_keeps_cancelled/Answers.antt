use Rattle.law_reports.proofs.lemmas.requests.CancelledCommands.{command_keeps_cancelled}
use Rattle.law_reports.proofs.requests.cancelled.command_keeps_cancelled.Goals as goal

pub returns : goal.returns
returns c = command_keeps_cancelled
