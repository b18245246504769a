use Rattle.std.proofs.Common.{refl}
use Rattle.hc_copy.specs.Overlay.{settled_queue, moved}
use Rattle.law_frames.proofs.QueueVisitSampled.{visit_is, back_is}
use Rattle.law_frames.proofs.queue_visit_worked.a_visit.Goals as goal

pub returns : goal.returns
unfolding settled_queue moved
returns c = record { visit = visit_is; works = refl; got = refl; left = refl; back = back_is; buffer = refl; over = refl }
