use Rattle.std.proofs.Common.{[], ◌∷◌}
use Rattle.itd_sitd.specs.Sitd.{sitd_words}
use Rattle.itd_sitd.proofs.sitd.Sitd.write.Goals as goal

pub returns : goal.returns
unfolding sitd_words
returns c = λ i. c.to_word.ensures i ∷ c.endpoint_word.ensures i ∷ c.mask_word.ensures i ∷ c.state_word.ensures i ∷ c.offset_word.ensures i ∷ c.position_word.ensures i ∷ c.to_word-2.ensures i ∷ []
