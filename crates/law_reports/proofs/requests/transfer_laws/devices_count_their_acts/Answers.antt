use Rattle.law_reports.proofs.lemmas.requests.Counts.{counts_are_acts}
use Rattle.law_reports.proofs.lemmas.requests.TransferEvents.{event_keeps_counts}
use Rattle.law_reports.proofs.requests.transfer_laws.devices_count_their_acts.Goals as goal

pub returns : goal.returns
returns c = record { event = event_keeps_counts; acts = counts_are_acts }
