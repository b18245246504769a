use Rattle.std.proofs.Common.{refl}
use Rattle.hc_copy.specs.Overlay.{settled_queue, moved}
use Rattle.hc_interrupt.specs.Copies.{with_split}
use Rattle.law_frames.proofs.SplitSampled.{visit_is, back_is}
use Rattle.law_frames.proofs.split_worked.a_start_split.Goals as goal

pub returns : goal.returns
unfolding settled_queue moved with_split
returns c = record { visit = visit_is; starts = refl; waits = refl; noted = refl; back = back_is; do_complete = refl; tag = refl; over = refl }
