use Rattle.std.proofs.Common.{[], ◌∷◌}
use Rattle.itd_sitd.specs.Slot.{slot_word}
use Rattle.itd_sitd.specs.Itd.{itd_words}
use Rattle.itd_sitd.proofs.itd.Itd.write.Goals as goal

pub returns : goal.returns
unfolding itd_words slot_word
returns c = λ i. c.to_word.ensures i ∷ c.to_word-2.ensures i ∷ c.to_word-3.ensures i ∷ c.to_word-4.ensures i ∷ c.to_word-5.ensures i ∷ c.to_word-6.ensures i ∷ c.to_word-7.ensures i ∷ c.to_word-8.ensures i ∷ c.to_word-9.ensures i ∷ c.endpoint_word.ensures i ∷ c.packet_word.ensures i ∷ c.multi_word.ensures i ∷ c.page_word.ensures i ∷ c.page_word-2.ensures i ∷ c.page_word-3.ensures i ∷ c.page_word-4.ensures i ∷ []
