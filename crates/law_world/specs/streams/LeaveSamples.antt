-- Streams for worked rows: those of a driver's two IN endpoints, of which the second left the ring and isn't met any more once the doorbell is answered.
--     both_streams     before Async Advance is cleared
--     one_stream       .. and then
use Rattle.std.specs.Prelude.{[], true}
use Rattle.law_world.specs.streams.narrowed_streams.Samples.{after, narrow, streams, ends}
use Rattle.law_world.specs.steps.Streaming.{Streams}
use Rattle.law_world.specs.streams.Clearing.{narrowed_to}

abbrev pub both_streams : Streams
both_streams = record {
  stream = λ addr ep. true;
  packets = λ addr ep. [];
  streams = streams;
  endpoint = ends;
}

abbrev pub one_stream : Streams
one_stream = narrowed_to both_streams after narrow
