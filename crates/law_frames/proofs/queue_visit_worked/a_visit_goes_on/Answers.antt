use Rattle.std.proofs.Common.{refl}
use Rattle.hc_copy.specs.Overlay.{settled_queue, moved}
use Rattle.law_frames.proofs.queue_visit_worked.a_visit_goes_on.Goals as goal

pub returns : goal.returns
unfolding settled_queue moved
returns c = record { left = refl; active = refl; again = refl; no_more = refl }
