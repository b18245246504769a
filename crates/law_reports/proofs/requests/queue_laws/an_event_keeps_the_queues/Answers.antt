use Rattle.law_reports.proofs.lemmas.requests.QueueEvents.{event_keeps, event_leaves}
use Rattle.law_reports.proofs.requests.queue_laws.an_event_keeps_the_queues.Goals as goal

pub returns : goal.returns
returns g c = record { queues = event_keeps g.W.Wire.begins g.W.Wire.transacts; device = event_leaves g.W.Wire.begins g.W.Wire.transacts }
