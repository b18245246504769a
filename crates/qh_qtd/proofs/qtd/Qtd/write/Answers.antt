use Rattle.std.proofs.Common.{[], ◌∷◌}
use Rattle.qh_qtd.specs.Token.{token_word}
use Rattle.qh_qtd.specs.Qtd.{qtd_words}
use Rattle.qh_qtd.proofs.qtd.Qtd.write.Goals as goal

pub returns : goal.returns
unfolding qtd_words token_word
returns c = λ i. c.to_word.ensures i ∷ c.to_word-2.ensures i ∷ c.to_word-3.ensures i ∷ c.buffer_word.ensures i ∷ c.page_word.ensures i ∷ c.page_word-2.ensures i ∷ c.page_word-3.ensures i ∷ c.page_word-4.ensures i ∷ []
