use Rattle.law_frames.proofs.SplitWalked.{frame_first, starts, token_there, tag_there}
use Rattle.law_frames.proofs.split_worked.a_start_split_is_written.Goals as goal

pub returns : goal.returns
returns c = record { frame = frame_first; walk = starts; token = token_there; tag = tag_there }
