use Rattle.law_driver.proofs.lemmas.planned_endpoints.Due.{a_frame_has_all_queue_heads_that_are_due}
use Rattle.law_driver.proofs.planned_endpoints.a_frame_has_all_queue_heads_that_are_due.Goals as goal

pub returns : goal.returns
returns c = a_frame_has_all_queue_heads_that_are_due
