use Rattle.law_reports.proofs.lemmas.requests.lemmas.told_requests.Waiting.{transfer_adds_waiting, quiet_rows_keep_waiting}
use Rattle.law_reports.proofs.lemmas.requests.lemmas.told_requests.WaitingHarvests.{other_harvest_keeps_waiting, other_returns_keep_waiting}
use Rattle.law_reports.proofs.requests.told_requests.laws.other_rows_leave_what_waits.Goals as goal

pub returns-clause-transfer : goal.returns-clause-transfer
returns-clause-transfer c = transfer_adds_waiting

pub returns-clause-quiet : goal.returns-clause-quiet
returns-clause-quiet c = quiet_rows_keep_waiting

pub returns-clause-harvests : goal.returns-clause-harvests
returns-clause-harvests c = other_harvest_keeps_waiting

pub returns-clause-returns : goal.returns-clause-returns
returns-clause-returns c = other_returns_keep_waiting
