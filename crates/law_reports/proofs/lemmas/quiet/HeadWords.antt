-- The queue head of the ring itself is that of no endpoint: its number is 0, and it isn't that of a control endpoint (EHCI 1.0, 3.6.2 and
-- 4.8).
use Rattle.std.proofs.Common.{◌≡◌, ℕ, ◌+◌, ◌*◌, ◌==◌, Bool, true, false, not, ◌||◌, cond, List, get_or, Some, None, ap, refl, sym, ◌∙◌, arith}
use Rattle.std.specs.Prelude.{slice_index}
use Rattle.std.specs.Result.{result_ok}
use Rattle.std.proofs.lemmas.Bool.{false≢true}
use Rattle.word_mem.specs.Memory.{Mem, word_at}
use Rattle.word_mem.specs.Views.{words_at}
use Rattle.word_mem.proofs.Words.{get_or-words_in}
use Rattle.link_words.specs.Layout.{bits, is_set}
use Rattle.qh_qtd.specs.declared.queue_head.Qh.{Qh}
use Rattle.qh_qtd.specs.QueueHead.{qh_at, qh_bad, qh_read, qh_words}
use Rattle.mem_queues.specs.Structures.{queue_head_at_address, reaches_queue_head}
use Rattle.claims_driver.specs.InPlace.{AreFixed}
use Rattle.drv_table.specs.DriverContent.{DriverContent}
use Rattle.drv_table.specs.Words.{head_block, opening_head}
use Rattle.law_driver_ring.proofs.Common.{unless_is}

read_is : (ws : List ℕ) (q : Qh) → result_ok (qh_read ws) ≡ Some q → qh_at ws ≡ q
unfolding qh_read
read_is ws q e = unless_is (qh_bad ws) (qh_at ws) q e

there_is : (b : Bool) (ws : List ℕ) (q : Qh) → cond b (result_ok (qh_read ws)) None ≡ Some q → qh_at ws ≡ q
there_is true ws q e = read_is ws q e
there_is false ws q e = absurd (cc)

control_in_words : (ws : List ℕ) → (qh_at ws).dtc ≡ is_set 14 (get_or ws 1 0)
unfolding qh_at
control_in_words ws = refl

number_in_words : (ws : List ℕ) → (qh_at ws).ep ≡ bits 11 8 (get_or ws 1 0)
unfolding qh_at
number_in_words ws = refl

read_control : (m : Mem) (b : ℕ) (q : Qh) → queue_head_at_address m (32 * b) ≡ Some q → q.dtc ≡ is_set 14 (word_at m (32 * b + 4))
read_control m b q there =
    let same = there_is (reaches_queue_head m (32 * b)) (words_at m (32 * b) 12) q there in
    ap (λ (z : Qh). z.dtc) (sym same) ∙ control_in_words (words_at m (32 * b) 12)
    ∙ ap (is_set 14) (get_or-words_in m.words (32 * b) 12 1 (omega arith))

read_number : (m : Mem) (b : ℕ) (q : Qh) → queue_head_at_address m (32 * b) ≡ Some q → q.ep ≡ bits 11 8 (word_at m (32 * b + 4))
read_number m b q there =
    let same = there_is (reaches_queue_head m (32 * b)) (words_at m (32 * b) 12) q there in
    ap (λ (z : Qh). z.ep) (sym same) ∙ number_in_words (words_at m (32 * b) 12)
    ∙ ap (bits 11 8) (get_or-words_in m.words (32 * b) 12 1 (omega arith))

opening_control : is_set 14 (slice_index (qh_words opening_head) 1) ≡ false
unfolding qh_words
opening_control = refl

opening_number : bits 11 8 (slice_index (qh_words opening_head) 1) ≡ 0
unfolding qh_words
opening_number = refl

pub head_is_none : (m : Mem) (d : DriverContent) → AreFixed m d → (q : Qh) → queue_head_at_address m (32 * head_block) ≡ Some q
    → (q.dtc || not (q.ep == 0)) ≡ true → ⊥
head_is_none m d fixed q there on =
    let control : q.dtc ≡ false =
    read_control m head_block q there ∙ (ap (is_set 14) fixed.head.characteristics ∙ opening_control) in
    let number : q.ep ≡ 0 = read_number m head_block q there ∙ (ap (bits 11 8) fixed.head.characteristics ∙ opening_number) in
    false≢true (sym (ap (λ (b : Bool). b || not (q.ep == 0)) control ∙ ap (λ (n : ℕ). not (n == 0)) number) ∙ on)
