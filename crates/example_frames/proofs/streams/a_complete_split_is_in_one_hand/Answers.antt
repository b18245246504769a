use Rattle.example_frames.proofs.StreamSampled.{completes_both, both_streams, joined_before, joined_after}
use Rattle.example_frames.proofs.streams.a_complete_split_is_in_one_hand.Goals as goal

pub returns : goal.returns
returns c = record { effect = completes_both; streams = both_streams; before = joined_before; after = joined_after }
