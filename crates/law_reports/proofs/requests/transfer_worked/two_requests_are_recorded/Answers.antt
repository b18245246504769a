use Rattle.law_reports.proofs.lemmas.requests.TransferSampled.{begun_recorded, done_recorded, next_recorded, closed_recorded}
use Rattle.law_reports.proofs.requests.transfer_worked.two_requests_are_recorded.Goals as goal

pub returns : goal.returns
returns c = record { begun = begun_recorded; done = done_recorded; next = next_recorded; closed = closed_recorded }
