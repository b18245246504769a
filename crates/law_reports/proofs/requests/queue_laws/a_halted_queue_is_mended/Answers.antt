use Rattle.law_reports.proofs.lemmas.requests.QueueMending.{mend_stands, mend_goes_on}
use Rattle.law_reports.proofs.requests.queue_laws.a_halted_queue_is_mended.Goals as goal

pub returns : goal.returns
returns g c = record { stands = mend_stands; goes_on = mend_goes_on }
