use Rattle.law_queues.proofs.lemmas.reached_rings.Narrowing.{event_narrows, answer_narrows}
use Rattle.law_queues.proofs.reached_rings.laws.an_event_narrows.Goals as goal

pub returns : goal.returns
returns g c = record { each = event_narrows g.W.Wire.transacts; answer = answer_narrows g.W.Wire.transacts }
