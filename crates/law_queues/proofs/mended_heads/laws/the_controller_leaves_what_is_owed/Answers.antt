use Rattle.law_queues.proofs.lemmas.mended_heads.Standing.{walk_keeps_mends, halted_words_stay}
use Rattle.law_queues.proofs.mended_heads.laws.the_controller_leaves_what_is_owed.Goals as goal

pub returns : goal.returns
returns g c = record { stands = walk_keeps_mends g.W.Wire.transacts; words = halted_words_stay g.W.Wire.transacts }
