use Rattle.law_controller.proofs.lemmas.controlled_streams.Outs.{known_begins_taken}
use Rattle.law_controller.proofs.controlled_streams.out_pipe_laws.known_begins_taken.Goals as goal

pub returns : goal.returns
returns c = known_begins_taken
