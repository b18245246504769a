-- Structures are read alike from memories that are the same in Lent blocks, and written alike.
use Rattle.std.proofs.Common.{◌≡◌, ℕ, ◌+◌, ◌*◌, ◌%◌, ◌<◌, ◌≤◌, Bool, true, false, if◌then◌else◌, List, take, Option, None, ap, refl, sym, ⊎_elim, arith}
use Rattle.std.specs.Prelude.{◌&&◌}
use Rattle.std.specs.Result.{result_ok}
use Rattle.std.proofs.lemmas.Bool.{cases_lt, false≢true}
use Rattle.law_common.proofs.Booleans.{and_both}
use Rattle.word_mem.specs.Memory.{Mem, reaches, refused, with_word}
use Rattle.word_mem.specs.Views.{words_at, with_words}
use Rattle.qh_qtd.specs.declared.queue_head.Qh.{Qh}
use Rattle.qh_qtd.specs.Qtd.{qtd_read}
use Rattle.qh_qtd.specs.QueueHead.{qh_read}
use Rattle.qh_qtd.specs.Token.{token_word}
use Rattle.itd_sitd.specs.declared.slot.ItdSlot.{ItdSlot}
use Rattle.itd_sitd.specs.declared.sitd.Sitd.{Sitd}
use Rattle.itd_sitd.specs.Slot.{slot_word}
use Rattle.itd_sitd.specs.Itd.{itd_read}
use Rattle.itd_sitd.specs.Sitd.{sitd_read}
use Rattle.toggle_error.specs.declared.host.Outcome.{Outcome}
use Rattle.mem_queues.specs.Structures.{qtd_at_address, qtd_was_read, reaches_queue_head, queue_head_at_address, queue_head_was_read, overlay_words, overlay_written, token_written}
use Rattle.mem_descriptors.specs.Descriptors.{reaches_itd, itd_at_address, sitd_at_address, itd_was_read, sitd_was_read, slot_address, slot_written, state_words, state_written}
use Rattle.hc_copy.specs.Overlay.{moved, pages_of, buffer_place}
use Rattle.hc_copy.specs.Buffer.{bytes_written}
use Rattle.hc_copy.specs.WriteBack.{moved_by, then_write, overlay_after, overlay_back, token_back, written_back}
use Rattle.hc_iso.specs.declared.held.HeldItd.{HeldItd}
use Rattle.hc_iso.specs.declared.held.SplitOutcome.{SplitOutcome}
use Rattle.hc_iso.specs.Sitd.{sitd_place, moved_sitd}
use Rattle.hc_iso.specs.WriteBack.{itd_pages, slot_place, done_slot, slot_back, itd_written, sitd_pages, moved_by as split_moved, state_back, sitd_written}
use Rattle.law_ring.proofs.lemmas.walk_writes.Lent.{reach_in}
use Rattle.claims_base.specs.Controller.{IsSameWhereLent}
use Rattle.law_controller.proofs.lemmas.lent_reads.Same.{same_reaches, same_both, same_refused, same_if, words_same, set_same, words_put, AreSameWritten, written_same, then_same}

-- ---- reading

-- by a test that is the same in both
there_same : {A : Type 0} (x y : Option A) (a b : Bool) → b ≡ a → (a ≡ true → y ≡ x) → (if b then y else None) ≡ (if a then x else None)
there_same x y true true is same = same refl
there_same x y false false is same = refl
there_same x y true false is same = absurd (false≢true is)
there_same x y false true is same = absurd (false≢true (sym is))

in_blocks : (m : Mem) (a i count : ℕ) → a % 32 ≡ 0 → count ≤ 16 → (reaches m a && reaches m (a + 32)) ≡ true → i < count → reaches m (a + 4 * i) ≡ true
in_blocks m a i count aligned most both below =
    let each = and_both (reaches m a) (reaches m (a + 32)) both in
    ⊎_elim (λ (low : i < 8). reach_in m a (a + 4 * i) (omega (arith, aligned, low)) each.0)
    (λ (high : 8 ≤ i). reach_in m (a + 32) (a + 4 * i) (omega (arith, aligned, high, below, most)) each.1) (cases_lt i 8)

in_block : (m : Mem) (a i count : ℕ) → a % 32 ≡ 0 → count ≤ 8 → reaches m a ≡ true → i < count → reaches m (a + 4 * i) ≡ true
in_block m a i count aligned most one below = reach_in m a (a + 4 * i) (omega (arith, aligned, below, most)) one

pub head_same : (m n : Mem) (a : ℕ) → IsSameWhereLent m n → a % 32 ≡ 0 → queue_head_at_address n a ≡ queue_head_at_address m a
head_same m n a k aligned =
    there_same (result_ok (qh_read (words_at m a 12))) (result_ok (qh_read (words_at n a 12))) (reaches_queue_head m a) (reaches_queue_head n a) (same_both m n a (a + 32) k)
    (λ both. ap (λ (ws : List ℕ). result_ok (qh_read ws)) (words_same m n a 12 k (λ i below. in_blocks m a i 12 aligned (omega arith) both below)))

pub element_same : (m n : Mem) (a : ℕ) → IsSameWhereLent m n → a % 32 ≡ 0 → qtd_at_address n a ≡ qtd_at_address m a
element_same m n a k aligned =
    there_same (result_ok (qtd_read (words_at m a 8))) (result_ok (qtd_read (words_at n a 8))) (reaches m a) (reaches n a) (same_reaches m n a k)
    (λ one. ap (λ (ws : List ℕ). result_ok (qtd_read ws)) (words_same m n a 8 k (λ i below. in_block m a i 8 aligned (omega arith) one below)))

pub itd_same : (m n : Mem) (a : ℕ) → IsSameWhereLent m n → a % 32 ≡ 0 → itd_at_address n a ≡ itd_at_address m a
itd_same m n a k aligned =
    there_same (result_ok (itd_read (words_at m a 16))) (result_ok (itd_read (words_at n a 16))) (reaches_itd m a) (reaches_itd n a) (same_both m n a (a + 32) k)
    (λ both. ap (λ (ws : List ℕ). result_ok (itd_read ws)) (words_same m n a 16 k (λ i below. in_blocks m a i 16 aligned (omega arith) both below)))

pub sitd_same : (m n : Mem) (a : ℕ) → IsSameWhereLent m n → a % 32 ≡ 0 → sitd_at_address n a ≡ sitd_at_address m a
sitd_same m n a k aligned =
    there_same (result_ok (sitd_read (words_at m a 7))) (result_ok (sitd_read (words_at n a 7))) (reaches m a) (reaches n a) (same_reaches m n a k)
    (λ one. ap (λ (ws : List ℕ). result_ok (sitd_read ws)) (words_same m n a 7 k (λ i below. in_block m a i 7 aligned (omega arith) one below)))

-- what reading leaves
pub head_was_same : (m n : Mem) (a : ℕ) → IsSameWhereLent m n → IsSameWhereLent (queue_head_was_read m a) (queue_head_was_read n a)
head_was_same m n a k = same_if m n (refused m) (refused n) (reaches_queue_head m a) (reaches_queue_head n a) (same_both m n a (a + 32) k) k (same_refused m n k)

pub element_was_same : (m n : Mem) (a : ℕ) → IsSameWhereLent m n → IsSameWhereLent (qtd_was_read m a) (qtd_was_read n a)
element_was_same m n a k = same_if m n (refused m) (refused n) (reaches m a) (reaches n a) (same_reaches m n a k) k (same_refused m n k)

pub itd_was_same : (m n : Mem) (a : ℕ) → IsSameWhereLent m n → IsSameWhereLent (itd_was_read m a) (itd_was_read n a)
itd_was_same m n a k = same_if m n (refused m) (refused n) (reaches_itd m a) (reaches_itd n a) (same_both m n a (a + 32) k) k (same_refused m n k)

pub sitd_was_same : (m n : Mem) (a : ℕ) → IsSameWhereLent m n → IsSameWhereLent (sitd_was_read m a) (sitd_was_read n a)
sitd_was_same m n a k = same_if m n (refused m) (refused n) (reaches m a) (reaches n a) (same_reaches m n a k) k (same_refused m n k)

-- ---- writing

overlay_same : (m n : Mem) (a : ℕ) (ws : List ℕ) → IsSameWhereLent m n → IsSameWhereLent (overlay_written m a ws) (overlay_written n a ws)
overlay_same m n a ws k =
    same_if _ _ (refused m) (refused n) (reaches m a) (reaches n a) (same_reaches m n a k)
    (same_if (with_words m (a + 12) ws) (with_words n (a + 12) ws) (refused (with_words m (a + 12) (take 5 ws))) (refused (with_words n (a + 12) (take 5 ws))) (reaches m (a + 32)) (reaches n (a + 32))
    (same_reaches m n (a + 32) k) (words_put ws m n (a + 12) k)
    (same_refused (with_words m (a + 12) (take 5 ws)) (with_words n (a + 12) (take 5 ws)) (words_put (take 5 ws) m n (a + 12) k)))
    (same_refused m n k)

pub overlay_after_same : (m n : Mem) (a : ℕ) (q : Qh) → IsSameWhereLent m n → IsSameWhereLent (overlay_after m a q) (overlay_after n a q)
unfolding overlay_after
overlay_after_same m n a q k = overlay_same m n a (overlay_words q) k

overlay_back_same : (a : ℕ) (q : Qh) (m n : Mem) → IsSameWhereLent m n → AreSameWritten (overlay_back a q m) (overlay_back a q n)
overlay_back_same a q m n k = record { all = same_both m n a (a + 32) k; memory = overlay_after_same m n a q k }

token_by : (q : Qh) (m n : Mem) (active : Bool) → IsSameWhereLent m n
    → AreSameWritten (if active then record { memory = m; all = true } else record { memory = token_written m q.current q.token; all = reaches m q.current })
    (if active then record { memory = n; all = true } else record { memory = token_written n q.current q.token; all = reaches n q.current })
token_by q m n true k = record { all = refl; memory = k }
token_by q m n false k = record {
  all = same_reaches m n q.current k;
  memory =
      same_if (with_word m (q.current + 8) (token_word q.token)) (with_word n (q.current + 8) (token_word q.token)) (refused m) (refused n) (reaches m q.current) (reaches n q.current) (same_reaches m n q.current k)
      (set_same m n _ (token_word q.token) k) (same_refused m n k);
}

token_back_same : (q : Qh) (m n : Mem) → IsSameWhereLent m n → AreSameWritten (token_back q m) (token_back q n)
token_back_same q m n k = token_by q m n q.token.active k

pub back_same : (a : ℕ) (q : Qh) (outcome : Outcome) (got : List ℕ) (m n : Mem) → IsSameWhereLent m n → AreSameWritten (written_back a q outcome got m) (written_back a q outcome got n)
unfolding written_back
back_same a q outcome got m n k =
    let new : Qh = moved q (moved_by outcome) in
    then_same (then_write (bytes_written (pages_of q) (buffer_place q) got m) (overlay_back a new)) (then_write (bytes_written (pages_of q) (buffer_place q) got n) (overlay_back a new)) (token_back new)
    (then_same (bytes_written (pages_of q) (buffer_place q) got m) (bytes_written (pages_of q) (buffer_place q) got n) (overlay_back a new) (written_same m n (pages_of q) (buffer_place q) got k) (overlay_back_same a new))
    (token_back_same new)

slot_same : (a u : ℕ) (s : ItdSlot) (m n : Mem) → IsSameWhereLent m n → IsSameWhereLent (slot_written m a u s) (slot_written n a u s)
slot_same a u s m n k =
    same_if (with_word m (slot_address a u) (slot_word s)) (with_word n (slot_address a u) (slot_word s)) (refused m) (refused n) (reaches m (slot_address a u)) (reaches n (slot_address a u))
    (same_reaches m n (slot_address a u) k) (set_same m n _ (slot_word s) k) (same_refused m n k)

pub itd_back_same : (h : HeldItd) (got : List ℕ) (m n : Mem) → IsSameWhereLent m n → AreSameWritten (itd_written h got m) (itd_written h got n)
unfolding itd_written
itd_back_same h got m n k =
    then_same (bytes_written (itd_pages h.itd) (slot_place h.slot) got m) (bytes_written (itd_pages h.itd) (slot_place h.slot) got n) (slot_back h) (written_same m n (itd_pages h.itd) (slot_place h.slot) got k)
    (λ x y same. record { all = same_reaches x y (slot_address h.at h.number) same; memory = slot_same h.at h.number (done_slot h) x y same })

state_same : (a : ℕ) (ws : List ℕ) (m n : Mem) → IsSameWhereLent m n → IsSameWhereLent (state_written m a ws) (state_written n a ws)
state_same a ws m n k =
    same_if (with_words m (a + 12) ws) (with_words n (a + 12) ws) (refused m) (refused n) (reaches m a) (reaches n a) (same_reaches m n a k) (words_put ws m n (a + 12) k) (same_refused m n k)

pub sitd_back_same : (a : ℕ) (v : Sitd) (outcome : SplitOutcome) (got : List ℕ) (m n : Mem) → IsSameWhereLent m n → AreSameWritten (sitd_written a v outcome got m) (sitd_written a v outcome got n)
unfolding sitd_written
sitd_back_same a v outcome got m n k =
    let new : Sitd = moved_sitd (split_moved outcome) v in
    then_same (bytes_written (sitd_pages v) (sitd_place v) got m) (bytes_written (sitd_pages v) (sitd_place v) got n) (state_back a new) (written_same m n (sitd_pages v) (sitd_place v) got k)
    (λ x y same. record { all = same_reaches x y a same; memory = state_same a (state_words new) x y same })
