-- What a queue head that is read says of its link and of the bit H.
use Rattle.std.proofs.Common.{◌≡◌, ℕ, ◌+◌, ◌*◌, ◌/◌, ◌%◌, ◌^◌, ◌==◌, Bool, true, false, cond, List, get_or, Some, None, ap, sym, ◌∙◌, refl, arith}
use Rattle.std.specs.Result.{result_ok}
use Rattle.law_driver_ring.proofs.Common.{unless_is}
use Rattle.word_mem.specs.Memory.{Mem, word_at}
use Rattle.word_mem.specs.Views.{words_at}
use Rattle.word_mem.proofs.Words.{get_or-words_in}
use Rattle.link_words.specs.Layout.{is_set}
use Rattle.link_words.specs.Fields.{link_at}
use Rattle.link_words.specs.declared.kinds.Link.TheVariants as links
use Rattle.link_words.specs.declared.fields.LinkBits.{LinkBits}
use Rattle.link_words.specs.Links.{link_of}
use Rattle.qh_qtd.specs.declared.queue_head.Qh.{Qh}
use Rattle.qh_qtd.specs.QueueHead.{qh_read, qh_at, qh_bad}
use Rattle.mem_queues.specs.Structures.{queue_head_at_address, reaches_queue_head}
use Rattle.drv_table.specs.Words.{queue_head_link}

read_is : (ws : List ℕ) (q : Qh) → result_ok (qh_read ws) ≡ Some q → qh_at ws ≡ q
unfolding qh_read
read_is ws q e = unless_is (qh_bad ws) (qh_at ws) q e

there_is : (b : Bool) (ws : List ℕ) (q : Qh) → cond b (result_ok (qh_read ws)) None ≡ Some q → qh_at ws ≡ q
there_is true ws q e = read_is ws q e
there_is false ws q e = absurd (cc)

link_in_words : (ws : List ℕ) → (qh_at ws).link ≡ link_at (get_or ws 0 0)
unfolding qh_at
link_in_words ws = refl

head_in_words : (ws : List ℕ) → (qh_at ws).head ≡ is_set 15 (get_or ws 1 0)
unfolding qh_at
head_in_words ws = refl

pub read_link : (m : Mem) (b : ℕ) (q : Qh) → queue_head_at_address m (32 * b) ≡ Some q → q.link ≡ link_at (word_at m (32 * b))
read_link m b q there =
    let same = there_is (reaches_queue_head m (32 * b)) (words_at m (32 * b) 12) q there in
    let at : (32 * b + 4 * 0) / 4 ≡ 32 * b / 4 = omega arith in
    ap (λ (z : Qh). z.link) (sym same) ∙ link_in_words (words_at m (32 * b) 12) ∙ ap link_at (get_or-words_in m.words (32 * b) 12 0 (omega arith) ∙ ap (λ i. get_or m.words i 0) at)

pub read_head : (m : Mem) (b : ℕ) (q : Qh) → queue_head_at_address m (32 * b) ≡ Some q → q.head ≡ is_set 15 (word_at m (32 * b + 4))
read_head m b q there =
    let same = there_is (reaches_queue_head m (32 * b)) (words_at m (32 * b) 12) q there in
    ap (λ (z : Qh). z.head) (sym same) ∙ head_in_words (words_at m (32 * b) 12) ∙ ap (is_set 15) (get_or-words_in m.words (32 * b) 12 1 (omega arith))

-- a link to a queue head is read as one
link_by : (l : LinkBits) (b : ℕ) → l.t ≡ false → l.typ ≡ 1 → l.address ≡ 32 * b → link_of l ≡ links.Qh (32 * b)
link_by l b t typ at =
    ap (λ x. link_of (record l { t = x })) t ∙ ap (λ x. link_of (record { t = false; typ = x; address = l.address })) typ ∙ ap links.Qh at

pub link_decoded : (b : ℕ) → link_of (link_at (queue_head_link b)) ≡ links.Qh (32 * b)
link_decoded b =
    let low : (32 * b + 2) / 2 ^ 0 % 2 ≡ 0 = omega arith in
    let mid : (32 * b + 2) / 2 ^ 1 % 2 ^ 2 ≡ 1 = omega arith in
    let high : (32 * b + 2) / 2 ^ 5 * 2 ^ 5 ≡ 32 * b = omega arith in
    link_by (link_at (queue_head_link b)) b (ap (λ n. n == 1) low) mid high
