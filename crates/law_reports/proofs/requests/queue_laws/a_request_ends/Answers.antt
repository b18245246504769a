use Rattle.law_reports.proofs.lemmas.requests.QueueEnding.{first_goes, last_goes, request_halts}
use Rattle.law_reports.proofs.requests.queue_laws.a_request_ends.Goals as goal

pub returns : goal.returns
returns g c = record { first = first_goes; last = last_goes; halts = request_halts }
