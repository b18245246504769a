use Rattle.law_ring.proofs.lemmas.walk_writes.Walking.{each_event_writes_lent_words}
use Rattle.law_ring.proofs.walk_writes.laws.each_event_writes_lent_words.Goals as goal

pub returns : goal.returns
returns g c = each_event_writes_lent_words g.W.Wire.transacts
