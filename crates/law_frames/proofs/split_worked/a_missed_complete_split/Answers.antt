use Rattle.std.proofs.Common.{refl}
use Rattle.hc_copy.specs.Overlay.{settled_queue, moved}
use Rattle.hc_interrupt.specs.Copies.{with_split}
use Rattle.law_frames.proofs.SplitSampled.{misses_it, missed_back}
use Rattle.law_frames.proofs.split_worked.a_missed_complete_split.Goals as goal

pub returns : goal.returns
unfolding settled_queue moved with_split
returns c = record { misses = misses_it; halts = refl; back = missed_back; told = refl; halted = refl; idle = refl; left = refl; over = refl }
