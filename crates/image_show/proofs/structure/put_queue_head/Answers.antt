use Rattle.std.proofs.lemmas.Result.{err_from_is_err_and}
use Rattle.std.proofs.Common.{◌≡◌, ℕ, ◌+◌, ◌++◌, List, Ok, ap, ◌∙◌}
use Rattle.link_words.specs.declared.kinds.QtdLink.{QtdLink}
use Rattle.image_show.specs.Base.{raised, qtd_from}
use Rattle.qh_qtd.specs.declared.queue_head.Qh.{Qh}
use Rattle.image_show.specs.Linked.{list_text}
use Rattle.image_show.specs.Shown.{qh_line, qh_text, queue, queue_head, word_at}
use Rattle.image_codec.proofs.Paged.{on_cut, on_join}
use Rattle.image_show.proofs.structure.put_queue_head.Goals as goal

-- the line and the queue are the queue head's text
whole : (base : ℕ) (words : List ℕ) (at address token word : ℕ) (head : Qh) (piece : List ℕ) (link : QtdLink) → address ≡ raised base at
    → piece ≡ qh_line address token head → token ≡ word_at words (at + 24)
    → link ≡ qtd_from base word → word ≡ word_at words (at + 16) → Ok head ≡ queue_head words at
    → piece ++ list_text (queue base words) link ≡ qh_text base words at (queue_head words at)
whole base words at address token word head piece link a p t l w h =
    ap (λ (x : List ℕ). x ++ list_text (queue base words) link)
    (p ∙ ap (λ (x : ℕ). qh_line x token head) a ∙ ap (λ (x : ℕ). qh_line (raised base at) x head) t)
    ∙ ap (λ (x : QtdLink). qh_line (raised base at) (word_at words (at + 24)) head ++ list_text (queue base words) x) (l ∙ ap (qtd_from base) w)
    ∙ ap (qh_text base words at) h

-- what the line begins
begun : (base : ℕ) (words : List ℕ) (at address token : ℕ) (head : Qh) (piece : List ℕ) → address ≡ raised base at
    → piece ≡ qh_line address token head → token ≡ word_at words (at + 24) → Ok head ≡ queue_head words at
    → piece ++ list_text (queue base words) (qtd_from base (word_at words (at + 16))) ≡ qh_text base words at (queue_head words at)
begun base words at address token head piece a p t h =
    ap (λ (x : List ℕ). x ++ list_text (queue base words) (qtd_from base (word_at words (at + 16))))
    (p ∙ ap (λ (x : ℕ). qh_line x token head) a ∙ ap (λ (x : ℕ). qh_line (raised base at) x head) t)
    ∙ ap (qh_text base words at) h

pub returns-in_err-put-clause-printed : goal.returns-in_err-put-clause-printed
returns-in_err-put-clause-printed g c =
    let p = err_from_is_err_and c.from_residual.result c.from_residual.ensures.1 in
    rw p.1 (on_cut _ _ _ _ _ _ _ _ _ c.as_slice.result.now _ _ c.in_err-put.ensures
    (begun c.args.base c.args.words.now c.args.at c.raised.result c.read_word.result c.in-Ok.head c.as_slice.result.now c.raised.ensures
    (c.as_slice.ensures.bytes ∙ c.line_of_queue_head-line.ensures) c.read_word.ensures c.in-Ok.ensures))

pub returns-clause-printed : goal.returns-clause-printed
returns-clause-printed g c =
    on_join _ _ _ _ _ _ _ _ _ _ c.as_slice.result.now _ _ c.in_ok-put.ensures c.put_queue.ensures.printed
    (whole c.args.base c.args.words.now c.args.at c.raised.result c.read_word.result c.read_word-2.result c.in-Ok.head c.as_slice.result.now
    c.qtd_from.result c.raised.ensures
    (c.as_slice.ensures.bytes ∙ c.line_of_queue_head-line.ensures) c.read_word.ensures c.qtd_from.ensures.meaning c.read_word-2.ensures c.in-Ok.ensures)
