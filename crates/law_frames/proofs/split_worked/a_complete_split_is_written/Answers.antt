use Rattle.law_frames.proofs.SplitWalked.{completes, bytes_there, done_there, prog_there}
use Rattle.law_frames.proofs.split_worked.a_complete_split_is_written.Goals as goal

pub returns : goal.returns
returns c = record { walk = completes; bytes = bytes_there; done = done_there; prog = prog_there }
