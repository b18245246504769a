use Rattle.law_reports.proofs.lemmas.requests.Telling.{accepted_keeps_telling, other_accepted_keeps_telling}
use Rattle.law_reports.proofs.requests.report_laws.an_accepted_transfer_waits.Goals as goal

pub returns : goal.returns
returns c = record { own = accepted_keeps_telling; other = other_accepted_keeps_telling }
