use Rattle.law_frames.proofs.StreamSampled.{settled_told, written_told}
use Rattle.law_frames.proofs.stream_worked.a_start_split_moves_nothing.Goals as goal

pub returns : goal.returns
returns c = record { settled = settled_told; written = written_told }
