use Rattle.law_microframes.proofs.lemmas.time.VisitStepRing.{ring_events_fall}
use Rattle.law_microframes.proofs.time.steps.ring_events_fall.Goals as goal

pub returns : goal.returns
returns g c = ring_events_fall g.W.Wire.transacts
