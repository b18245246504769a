use Rattle.law_frames.proofs.SitdStepSampled.{before_it, after_it, transacts_it, misses_it, passes_it, writes_it}
use Rattle.law_frames.proofs.sitd_step_worked.a_sitd_in_hand.Goals as goal

pub returns : goal.returns
returns c = record { frame = before_it; transacts = transacts_it; misses = misses_it; passes = passes_it; later = after_it; writes = writes_it }
