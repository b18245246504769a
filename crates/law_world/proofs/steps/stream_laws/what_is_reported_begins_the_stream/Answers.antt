use Rattle.law_world.proofs.lemmas.steps.StreamTurning.{streams_begin}
use Rattle.law_world.proofs.steps.stream_laws.what_is_reported_begins_the_stream.Goals as goal

pub returns : goal.returns
returns c = streams_begin
