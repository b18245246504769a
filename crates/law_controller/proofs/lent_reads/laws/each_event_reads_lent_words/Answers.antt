use Rattle.law_controller.proofs.lemmas.lent_reads.Controlling.{each_event_reads_lent_words}
use Rattle.law_controller.proofs.lent_reads.laws.each_event_reads_lent_words.Goals as goal

pub returns : goal.returns
returns g c = each_event_reads_lent_words g.W.Wire.begins g.W.Wire.transacts
