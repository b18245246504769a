use Rattle.law_driver_ring.proofs.Unlinking.{unlink_drives, answer_drives}
use Rattle.law_driver_ring.proofs.unlink_laws.a_queue_head_leaves.Goals as goal

pub returns : goal.returns
returns c = record { unlinks = unlink_drives; answers = answer_drives }
