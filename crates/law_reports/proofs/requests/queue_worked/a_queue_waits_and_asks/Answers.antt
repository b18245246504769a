use Rattle.law_reports.proofs.lemmas.requests.QueueSampled.{waiting, asking}
use Rattle.law_reports.proofs.requests.queue_worked.a_queue_waits_and_asks.Goals as goal

pub returns : goal.returns
returns c = record { waits = waiting; asks = asking }
