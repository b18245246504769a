use Rattle.law_queues.proofs.lemmas.whole_sends.Walking.{walk_keeps_whole, control_keeps_whole}
use Rattle.law_queues.proofs.whole_sends.laws.each_event_sends_whole.Goals as goal

pub returns : goal.returns
returns g c = record { walk = walk_keeps_whole g.W.Wire.transacts; control = control_keeps_whole g.W.Wire.begins g.W.Wire.transacts }
