use Rattle.law_controller.proofs.lemmas.controlled_streams.Piping.{an_event_keeps_the_pipes}
use Rattle.law_controller.proofs.controlled_streams.pipe_laws.an_event_keeps_the_pipes.Goals as goal

pub returns : goal.returns
returns g c = an_event_keeps_the_pipes g.W.Wire.begins g.W.Wire.transacts
