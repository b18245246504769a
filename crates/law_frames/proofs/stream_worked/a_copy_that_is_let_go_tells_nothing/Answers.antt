use Rattle.law_frames.proofs.StreamSampled.{let_go}
use Rattle.law_frames.proofs.stream_worked.a_copy_that_is_let_go_tells_nothing.Goals as goal

pub returns : goal.returns
returns c = let_go
