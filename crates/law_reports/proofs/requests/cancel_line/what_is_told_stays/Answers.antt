use Rattle.law_reports.proofs.lemmas.requests.LeftStays.{step_leaves_told, event_leaves_told}
use Rattle.law_reports.proofs.requests.cancel_line.what_is_told_stays.Goals as goal

pub returns-clause-driver : goal.returns-clause-driver
returns-clause-driver c = step_leaves_told

pub returns-clause-controller : goal.returns-clause-controller
returns-clause-controller c = event_leaves_told
