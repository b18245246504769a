use Rattle.law_frames.proofs.lemmas.framed_fronts.Running.{frames_keep_front, frames_keep_halts}
use Rattle.law_frames.proofs.framed_fronts.laws.however_many_events.Goals as goal

pub returns : goal.returns
returns g c = record { front = frames_keep_front g.W.Wire.transacts; halts = frames_keep_halts g.W.Wire.transacts }
