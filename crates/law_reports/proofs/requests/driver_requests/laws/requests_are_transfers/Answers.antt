use Rattle.law_reports.proofs.lemmas.requests.lemmas.driver_requests.Commands.{chained_have_qtds}
use Rattle.law_reports.proofs.lemmas.requests.lemmas.driver_requests.Telling.{transfers_are_told, requests_are_found}
use Rattle.law_reports.proofs.requests.driver_requests.laws.requests_are_transfers.Goals as goal

pub returns : goal.returns
returns c = record { told = transfers_are_told; found = requests_are_found; qtds = chained_have_qtds }
