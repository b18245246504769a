use Rattle.law_driver.proofs.lemmas.planned_endpoints.Due.{queue_heads_of_a_frame_are_due}
use Rattle.law_driver.proofs.planned_endpoints.queue_heads_of_a_frame_are_due.Goals as goal

pub returns : goal.returns
returns c = queue_heads_of_a_frame_are_due
