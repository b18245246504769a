use Rattle.law_frames.proofs.FetchSampled.{frame_behind, queue_comes, queue_led}
use Rattle.law_frames.proofs.fetch_worked.a_queue_head_is_read.Goals as goal

pub returns : goal.returns
returns c = record { before = frame_behind; reads = queue_comes; leads = queue_led }
