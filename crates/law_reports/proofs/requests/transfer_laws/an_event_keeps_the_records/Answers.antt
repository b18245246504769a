use Rattle.law_reports.proofs.lemmas.requests.TransferEvents.{event_keeps_records, event_keeps_closed}
use Rattle.law_reports.proofs.requests.transfer_laws.an_event_keeps_the_records.Goals as goal

pub returns : goal.returns
returns c = record { records = event_keeps_records; closed = event_keeps_closed }
