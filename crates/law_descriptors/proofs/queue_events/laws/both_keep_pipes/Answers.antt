use Rattle.law_descriptors.proofs.lemmas.queue_events.Pipes.{both_keep_pipes}
use Rattle.law_descriptors.proofs.queue_events.laws.both_keep_pipes.Goals as goal

pub returns : goal.returns
returns g c = both_keep_pipes g.W.Wire.begins g.W.Wire.transacts
