use Rattle.law_frames.proofs.Telling.{frame_moves_streams}
use Rattle.law_frames.proofs.stream_laws.frame_moves_streams.Goals as goal

pub returns : goal.returns
returns g c = frame_moves_streams g.W.Wire.transacts
