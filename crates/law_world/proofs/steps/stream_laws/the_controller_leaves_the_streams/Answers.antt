use Rattle.law_world.proofs.lemmas.steps.StreamTurning.{the_controller_leaves_the_streams}
use Rattle.law_world.proofs.steps.stream_laws.the_controller_leaves_the_streams.Goals as goal

pub returns : goal.returns
returns c = the_controller_leaves_the_streams
