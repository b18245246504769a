use Rattle.law_frames.proofs.WalkSampled.{frame_first, bytes_heard, walk, bytes_there, word_there}
use Rattle.law_frames.proofs.walk_worked.a_chain_is_walked.Goals as goal

pub returns : goal.returns
returns c = record { frame = frame_first; heard = bytes_heard; walk = walk; bytes = bytes_there; word = word_there }
