use Rattle.law_frames.proofs.StreamSampled.{completes_so, streams_so, before_told, after_told}
use Rattle.law_frames.proofs.stream_worked.a_complete_split_moves_its_bytes.Goals as goal

pub returns : goal.returns
returns c = record { effect = completes_so; streams = streams_so; before = before_told; after = after_told }
