use Rattle.law_devices.proofs.lemmas.ring_requests.RestingSampled.{idle_rests}
use Rattle.law_devices.proofs.ring_requests.rest_worked.a_queue_waits_at_its_end.Goals as goal

pub returns : goal.returns
returns c = idle_rests
