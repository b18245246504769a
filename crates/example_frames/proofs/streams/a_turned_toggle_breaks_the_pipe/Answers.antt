use Rattle.example_frames.proofs.StreamSampled.{not_turned, not_twice}
use Rattle.example_frames.proofs.streams.a_turned_toggle_breaks_the_pipe.Goals as goal

pub returns : goal.returns
returns c = record { turned = not_turned; twice = not_twice }
