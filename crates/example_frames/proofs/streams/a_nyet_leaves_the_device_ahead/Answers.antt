use Rattle.example_frames.proofs.StreamSampled.{nyet_stays, nyet_error, nyet_goes_on, nyet_toggle, nyet_in_a_ring, takes_it, ahead_by_it, drops_it, level_then}
use Rattle.example_frames.proofs.streams.a_nyet_leaves_the_device_ahead.Goals as goal

pub returns : goal.returns
returns c = record {
  stays = nyet_stays;
  error = nyet_error;
  goes_on = nyet_goes_on;
  same_toggle = nyet_toggle;
  in_a_ring = nyet_in_a_ring;
  takes = takes_it;
  ahead = ahead_by_it;
  drops = drops_it;
  level = level_then;
}
