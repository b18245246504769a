use Rattle.law_world.proofs.lemmas.steps.lemmas.unlinked_streams.Passing.{unlink_row, unlink_meets_ring, unlink_leaves_ring}
use Rattle.law_world.proofs.steps.unlinked_streams.laws.a_queue_head_is_passed.Goals as goal

pub returns : goal.returns
returns c = record { row = unlink_row; meets = unlink_meets_ring; ring = unlink_leaves_ring }
