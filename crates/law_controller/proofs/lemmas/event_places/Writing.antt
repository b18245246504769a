-- A word beside what is written stays.
use Rattle.std.proofs.Common.{◌≡◌, ◌≢◌, ℕ, suc, ◌+◌, ◌*◌, ◌/◌, ◌<◌, ◌≤◌, Bool, true, false, if◌then◌else◌, List, [], ◌∷◌, length, take, drop, ap, refl, ◌∙◌, arith}
use Rattle.std.specs.Prelude.{◌-◌, nat_le}
use Rattle.std.proofs.lemmas.List.{get_or-set_other, length-take}
use Rattle.law_structures.proofs.Common.{nine_words}
use Rattle.word_mem.specs.Memory.{Mem, word_at, reaches, refused, with_word}
use Rattle.word_mem.specs.Views.{with_words_in, with_words}
use Rattle.mem_bytes.specs.Bytes.{reached, all_reached, stored, with_bytes}
use Rattle.mem_bytes.proofs.Frames.{word_at-with_bytes}
use Rattle.qh_qtd.specs.declared.queue_head.Qh.{Qh}
use Rattle.qh_qtd.specs.Token.{token_word}
use Rattle.itd_sitd.specs.declared.sitd.Sitd.{Sitd}
use Rattle.itd_sitd.specs.Slot.{slot_word}
use Rattle.itd_sitd.specs.Sitd.{sitd_words}
use Rattle.toggle_error.specs.declared.host.Outcome.{Outcome}
use Rattle.mem_queues.specs.Structures.{overlay_words, overlay_written, token_written}
use Rattle.mem_descriptors.specs.Descriptors.{slot_address, state_words}
use Rattle.hc_copy.specs.Overlay.{moved, pages_of, buffer_place}
use Rattle.hc_copy.specs.Buffer.{Writing, size_of, placed, bytes_read, bytes_written}
use Rattle.hc_copy.specs.WriteBack.{moved_by, then_write, overlay_after, overlay_back, token_back, written_back}
use Rattle.hc_iso.specs.declared.held.HeldItd.{HeldItd}
use Rattle.hc_iso.specs.declared.held.SplitOutcome.{SplitOutcome}
use Rattle.hc_iso.specs.Sitd.{sitd_place, moved_sitd}
use Rattle.hc_iso.specs.WriteBack.{itd_pages, slot_place, done_slot, slot_back, itd_written, sitd_pages, moved_by as split_moved, state_back, sitd_written}
use Rattle.law_controller.specs.event_places.Places.{IsBesideBytes}

abbrev pub Stays : ℕ → Mem → Mem → Type 0
Stays at m new = word_at new at ≡ word_at m at

pub stays_if : (at : ℕ) (m x y : Mem) (b : Bool) → Stays at m x → Stays at m y → Stays at m (if b then x else y)
stays_if at m x y true one other = one
stays_if at m x y false one other = other

-- ---- words

pub word_stays : (at : ℕ) (m : Mem) (a v : ℕ) → at / 4 ≢ a / 4 → Stays at m (with_word m a v)
word_stays at m a v apart = get_or-set_other m.words (a / 4) (at / 4) v 0 apart

pub words_stay : (ws : List ℕ) (at : ℕ) (m : Mem) (a : ℕ) → ((i : ℕ) → i < length ws → at / 4 ≢ (a + 4 * i) / 4) → Stays at m (with_words m a ws)
unfolding with_words_in
words_stay [] at m a apart = refl
words_stay (v ∷ vs) at m a apart =
    words_stay vs at (with_word m a v) (a + 4) (λ i below same. apart (suc i) (omega (arith, below)) (let e : a + 4 + 4 * i ≡ a + 4 * suc i = omega arith in same ∙ ap (λ (n : ℕ). n / 4) e))
    ∙ word_stays at m a v (λ same. apart 0 (omega arith) (let e : a ≡ a + 4 * 0 = omega arith in same ∙ ap (λ (n : ℕ). n / 4) e))

overlay_stays : (at : ℕ) (m : Mem) (a : ℕ) (ws : List ℕ) → length ws ≡ 9 → ((i : ℕ) → i < 9 → at / 4 ≢ (a + 12 + 4 * i) / 4) → Stays at m (overlay_written m a ws)
overlay_stays at m a ws nine apart =
    let short = length-take 5 ws in
    stays_if at m _ (refused m) (reaches m a)
    (stays_if at m (with_words m (a + 12) ws) (refused (with_words m (a + 12) (take 5 ws))) (reaches m (a + 32)) (words_stay ws at m (a + 12) (λ i below. apart i (omega (arith, below, nine))))
    (words_stay (take 5 ws) at m (a + 12) (λ i below. apart i (omega (arith, below, short)))))
    refl

pub overlay_after_stays : (at : ℕ) (m : Mem) (a : ℕ) (q : Qh) → ((i : ℕ) → i < 9 → at / 4 ≢ (a + 12 + 4 * i) / 4) → Stays at m (overlay_after m a q)
unfolding overlay_after
overlay_after_stays at m a q apart = overlay_stays at m a (overlay_words q) (nine_words q) apart

-- ---- bytes

pub bytes_beside : (pages : List ℕ) (k n few at : ℕ) → few ≤ n → IsBesideBytes pages k n at → IsBesideBytes pages k few at
bytes_beside pages k n few at le beside i below = beside i (omega (arith, below, le))

stored_stays : (at : ℕ) (m : Mem) (pages : List ℕ) (k : ℕ) (bs : List ℕ) → IsBesideBytes pages k (length bs) at → Stays at m (stored m pages k bs)
unfolding stored
stored_stays at m pages k bs beside =
    let few = length-take (reached m pages k (length bs)) bs in
    stays_if at m (with_bytes m pages k bs) (refused (with_bytes m pages k (take (reached m pages k (length bs)) bs))) (all_reached m pages k (length bs)) (word_at-with_bytes m pages k bs at beside)
    (word_at-with_bytes m pages k (take (reached m pages k (length bs)) bs) at (λ i below. beside i (omega (arith, below, few))))

written_stays : (at : ℕ) (m : Mem) (pages : List ℕ) (k : ℕ) (got : List ℕ) → IsBesideBytes pages k (length got) at → Stays at m (bytes_written pages k got m).memory
written_stays at m pages k got beside =
    let few = length-take (size_of pages - k) got in
    stored_stays at m pages k (placed pages k got) (λ i below. beside i (omega (arith, below, few)))

pub read_stays : (at : ℕ) (pages : List ℕ) (from n : ℕ) (m : Mem) → Stays at m (bytes_read pages from n m).memory
read_stays at pages from n m = stays_if at m _ m (nat_le (from + n) (size_of pages)) (stays_if at m m (refused m) (all_reached m pages from n) refl refl) refl

-- ---- one write after another

then_stays : (at : ℕ) (m : Mem) (w : Writing) (next : Mem → Writing) → Stays at m w.memory → ((x : Mem) → Stays at x (next x).memory) → Stays at m (then_write w next).memory
then_stays at m w next one two = by w.all
  where
    by : (b : Bool) → Stays at m (if b then next w.memory else w).memory
    by true = two w.memory ∙ one
    by false = one

token_by : (at : ℕ) (q : Qh) (m : Mem) (b : Bool) → at / 4 ≢ (q.current + 8) / 4 → Stays at m (if b then with_word m (q.current + 8) (token_word q.token) else refused m)
token_by at q m b apart = stays_if at m (with_word m (q.current + 8) (token_word q.token)) (refused m) b (word_stays at m (q.current + 8) (token_word q.token) apart) refl

-- by whether the qTD goes on
abbrev token_writing : Bool → Qh → Mem → Writing
token_writing active q m = if active then record { memory = m; all = true } else record { memory = token_written m q.current q.token; all = reaches m q.current }

token_writing_stays : (at : ℕ) (q : Qh) (m : Mem) (active : Bool) → at / 4 ≢ (q.current + 8) / 4 → Stays at m (token_writing active q m).memory
token_writing_stays at q m true apart = refl
token_writing_stays at q m false apart = token_by at q m (reaches m q.current) apart

token_back_stays : (at : ℕ) (q : Qh) (m : Mem) → at / 4 ≢ (q.current + 8) / 4 → Stays at m (token_back q m).memory
token_back_stays at q m apart = token_writing_stays at q m q.token.active apart

current_moved : (q : Qh) (n : ℕ) → (moved q n).current ≡ q.current
unfolding moved
current_moved q n = refl

pub back_stays : (at a : ℕ) (q : Qh) (outcome : Outcome) (got : List ℕ) (m : Mem) → ((i : ℕ) → i < 9 → at / 4 ≢ (a + 12 + 4 * i) / 4) → at / 4 ≢ (q.current + 8) / 4
    → IsBesideBytes (pages_of q) (buffer_place q) (length got) at → Stays at m (written_back a q outcome got m).memory
unfolding written_back
back_stays at a q outcome got m overlay token bytes =
    let new : Qh = moved q (moved_by outcome) in
    let first : Writing = bytes_written (pages_of q) (buffer_place q) got m in
    then_stays at m (then_write first (overlay_back a new)) (token_back new)
    (then_stays at m first (overlay_back a new) (written_stays at m (pages_of q) (buffer_place q) got bytes) (λ x. overlay_after_stays at x a new overlay))
    (λ x. token_back_stays at new x (λ same. token (same ∙ ap (λ (c : ℕ). (c + 8) / 4) (current_moved q (moved_by outcome)))))

pub itd_back_stays : (at : ℕ) (h : HeldItd) (got : List ℕ) (m : Mem) → at / 4 ≢ slot_address h.at h.number / 4 → IsBesideBytes (itd_pages h.itd) (slot_place h.slot) (length got) at → Stays at m (itd_written h got m).memory
unfolding itd_written
itd_back_stays at h got m slot bytes =
    then_stays at m (bytes_written (itd_pages h.itd) (slot_place h.slot) got m) (slot_back h) (written_stays at m (itd_pages h.itd) (slot_place h.slot) got bytes)
    (λ x. stays_if at x (with_word x (slot_address h.at h.number) (slot_word (done_slot h))) (refused x) (reaches x (slot_address h.at h.number)) (word_stays at x (slot_address h.at h.number) (slot_word (done_slot h)) slot) refl)

pub sitd_back_stays : (at a : ℕ) (v : Sitd) (outcome : SplitOutcome) (got : List ℕ) (m : Mem) → ((i : ℕ) → i < 3 → at / 4 ≢ (a + 12 + 4 * i) / 4)
    → IsBesideBytes (sitd_pages v) (sitd_place v) (length got) at → Stays at m (sitd_written a v outcome got m).memory
unfolding sitd_written
sitd_back_stays at a v outcome got m state bytes =
    let new : Sitd = moved_sitd (split_moved outcome) v in
    let three = length-take 3 (drop 3 (sitd_words new)) in
    then_stays at m (bytes_written (sitd_pages v) (sitd_place v) got m) (state_back a new) (written_stays at m (sitd_pages v) (sitd_place v) got bytes)
    (λ x. stays_if at x (with_words x (a + 12) (state_words new)) (refused x) (reaches x a) (words_stay (state_words new) at x (a + 12) (λ i below. state i (omega (arith, below, three)))) refl)
