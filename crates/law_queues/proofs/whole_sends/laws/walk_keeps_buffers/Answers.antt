use Rattle.law_queues.proofs.lemmas.whole_sends.Buffers.{walk_keeps_buffers}
use Rattle.law_queues.proofs.whole_sends.laws.walk_keeps_buffers.Goals as goal

pub returns : goal.returns
returns g c = walk_keeps_buffers g.W.Wire.transacts
