use Rattle.law_reports.proofs.lemmas.requests.AskedSampled.{early, no_hub}
use Rattle.law_reports.proofs.requests.asked_worked.what_is_not_told.Goals as goal

pub returns-clause-early : goal.returns-clause-early
returns-clause-early c = early

pub returns-clause-hub : goal.returns-clause-hub
returns-clause-hub c = no_hub
