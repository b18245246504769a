use Rattle.law_descriptors.proofs.lemmas.queue_events.OutPipes.{both_keep_out_pipes}
use Rattle.law_descriptors.proofs.queue_events.laws.both_keep_out_pipes.Goals as goal

pub returns : goal.returns
returns g c = both_keep_out_pipes g.W.Wire.begins g.W.Wire.transacts
