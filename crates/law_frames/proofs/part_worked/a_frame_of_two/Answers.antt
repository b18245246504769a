use Rattle.law_frames.proofs.PartSampled.{before_it, after_it, fetches_it}
use Rattle.law_frames.proofs.part_worked.a_frame_of_two.Goals as goal

pub returns : goal.returns
returns c = record { before = before_it; after = after_it; fetches = fetches_it }
