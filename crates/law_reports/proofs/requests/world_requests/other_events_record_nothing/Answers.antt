use Rattle.std.proofs.Common.{refl}
use Rattle.law_reports.proofs.lemmas.requests.lemmas.world_requests.Queues.{quiet_acts, open_acts}
use Rattle.law_reports.proofs.requests.world_requests.other_events_record_nothing.Goals as goal

pub returns : goal.returns
returns c = record { opened = λ d acted v e. refl; quiet = quiet_acts; acts = open_acts }
