use Rattle.std.proofs.Common.{refl}
use Rattle.hc_masks.specs.Masks.{lacks}
use Rattle.hc_copy.specs.Overlay.{settled_queue, moved}
use Rattle.hc_interrupt.specs.Copies.{with_split}
use Rattle.law_frames.proofs.SplitSampled.{ended_back}
use Rattle.law_frames.proofs.split_worked.a_complete_split.Goals as goal

pub returns : goal.returns
unfolding settled_queue moved with_split lacks
returns c = record { completes = refl; moves = refl; got = refl; marked = refl; back = ended_back; done = refl; over = refl }
