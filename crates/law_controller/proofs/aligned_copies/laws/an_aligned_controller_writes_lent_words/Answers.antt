use Rattle.law_controller.proofs.lemmas.lent_writes.Controlling.{each_event_of_the_controller_writes_lent_words}
use Rattle.law_controller.proofs.lemmas.aligned_copies.Controlling.{aligned_placed}
use Rattle.law_controller.proofs.aligned_copies.laws.an_aligned_controller_writes_lent_words.Goals as goal

pub returns : goal.returns
returns g c = λ old wire new after is row. each_event_of_the_controller_writes_lent_words g.W.Wire.begins g.W.Wire.transacts old wire new after (aligned_placed old is) row
