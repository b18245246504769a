use Rattle.std.proofs.Common.{[], ◌∷◌, arith, ◌≡◌, ◌+◌}
use Rattle.qh_qtd.specs.Token.{token_word}
use Rattle.qh_qtd.specs.QueueHead.{qh_words}
use Rattle.qh_qtd.proofs.queue_head.Qh.write.Goals as goal

pub returns : goal.returns
unfolding qh_words token_word
returns c =
    let current = c.args.self.now.current in
    let alone : current ≡ current + (0 + 0) = omega arith in
    λ i. c.to_word.ensures i ∷ c.characteristics.ensures i ∷ c.capabilities.ensures i ∷ alone i ∷ c.to_word-2.ensures i ∷ c.alternate_word.ensures i ∷ c.to_word-3.ensures i ∷ c.offset_word.ensures i ∷ c.progress_word.ensures i ∷ c.frame_word.ensures i ∷ c.page_word.ensures i ∷ c.page_word-2.ensures i ∷ []
