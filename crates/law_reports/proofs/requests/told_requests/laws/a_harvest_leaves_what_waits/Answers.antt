use Rattle.law_reports.proofs.lemmas.requests.lemmas.told_requests.WaitingHarvests.{harvest_keeps_waiting, harvest_ends_one, harvest_stalls_all, stall_has_windows}
use Rattle.law_reports.proofs.requests.told_requests.laws.a_harvest_leaves_what_waits.Goals as goal

pub returns-clause-goes_on : goal.returns-clause-goes_on
returns-clause-goes_on c = harvest_keeps_waiting

pub returns-clause-ends : goal.returns-clause-ends
returns-clause-ends c = harvest_ends_one

pub returns-clause-stalls : goal.returns-clause-stalls
returns-clause-stalls c = harvest_stalls_all

pub returns-clause-windows : goal.returns-clause-windows
returns-clause-windows c = stall_has_windows
