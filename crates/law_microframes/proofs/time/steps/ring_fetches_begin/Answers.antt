use Rattle.law_microframes.proofs.lemmas.time.VisitStepRing.{ring_fetches_begin}
use Rattle.law_microframes.proofs.time.steps.ring_fetches_begin.Goals as goal

pub returns : goal.returns
returns g c = ring_fetches_begin g.W.Wire.transacts
