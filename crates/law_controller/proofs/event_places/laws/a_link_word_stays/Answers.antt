use Rattle.law_controller.proofs.lemmas.event_places.Controlling.{a_link_word_stays}
use Rattle.law_controller.proofs.event_places.laws.a_link_word_stays.Goals as goal

pub returns : goal.returns
returns g c = a_link_word_stays g.W.Wire.begins g.W.Wire.transacts
