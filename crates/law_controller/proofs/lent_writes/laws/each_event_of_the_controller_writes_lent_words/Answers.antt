use Rattle.law_controller.proofs.lemmas.lent_writes.Controlling.{each_event_of_the_controller_writes_lent_words}
use Rattle.law_controller.proofs.lent_writes.laws.each_event_of_the_controller_writes_lent_words.Goals as goal

pub returns : goal.returns
returns g c = each_event_of_the_controller_writes_lent_words g.W.Wire.begins g.W.Wire.transacts
