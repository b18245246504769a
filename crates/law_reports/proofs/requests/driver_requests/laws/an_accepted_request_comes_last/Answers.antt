use Rattle.law_reports.proofs.lemmas.requests.lemmas.driver_requests.Accepting.{accepted_requests_stay, accepted_request_comes}
use Rattle.law_reports.proofs.lemmas.requests.lemmas.driver_requests.Commands.{open_keeps_requests, cancel_keeps_requests}
use Rattle.law_reports.proofs.requests.driver_requests.laws.an_accepted_request_comes_last.Goals as goal

pub returns : goal.returns
returns c = record {
  others = accepted_requests_stay;
  opens = open_keeps_requests;
  cancels = cancel_keeps_requests;
  comes =
      accepted_request_comes;
}
