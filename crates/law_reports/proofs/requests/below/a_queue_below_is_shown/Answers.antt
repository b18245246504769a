use Rattle.law_reports.proofs.lemmas.requests.lemmas.below.GoingSampled.{shown, head, unsent, working_breaks}
use Rattle.law_reports.proofs.requests.below.a_queue_below_is_shown.Goals as goal

pub returns : goal.returns
returns c = record { shown = shown; head = head; unsent = unsent; working = working_breaks }
