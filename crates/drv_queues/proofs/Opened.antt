-- The opening: which runs are the lowest of memory just built, and what is written in them.
use Rattle.std.proofs.Common.{◌≡◌, ℕ, zero, suc, ◌+◌, ◌-◌, ◌*◌, ◌<◌, ◌≤◌, Bool, true, false, cond, List, [], ◌∷◌, ◌++◌, length, replicate, reverse, set, slice_get, Option, Some, None, option_map, arith, ap, sym, subst, ◌∙◌, ⊎_elim, refl}
use Rattle.std.proofs.lemmas.Bool.{cases_lt}
use Rattle.std.proofs.lemmas.Bool.Decides.{nat_tests}
use Rattle.std.proofs.lemmas.List.{get_or-set_same, length-set, same_lists, set-set, length-replicate}
use Rattle.std.proofs.lemmas.Option.{same_Some}
use Rattle.word_mem.specs.Runs.{Run}
use Rattle.word_mem.specs.Memory.{Mem, filled, with_word, with_states}
use Rattle.word_mem.specs.Views.{with_words, with_words_in}
use Rattle.word_mem.specs.Free.{is_free_run, least, lowest_run}
use Rattle.word_mem.specs.declared.blocks.BlockState.{BlockState}
use Rattle.word_mem.specs.declared.blocks.BlockState.TheVariants.{Free, Kept, Lent}
use Rattle.word_mem.proofs.Filled.{length-filled, get_or-filled_inside, get_or-filled_before, get_or-filled_after, slice_get-filled_inside, slice_get-filled_after}
use Rattle.word_mem.proofs.Search.{lowest_is, free_if_passes}
use Rattle.word_mem.proofs.FreeTail.{run_within}
use Rattle.qh_qtd.specs.declared.queue_head.Qh.{Qh}
use Rattle.qh_qtd.specs.QueueHead.{qh_words}
use Rattle.mem_runs.specs.Book.{Book, Holding, holding, slot_of, with_run, take_run, none_taken, lend_slot, lend_runs, lend_taken, has_address, can_store, store, store_words}
use Rattle.mem_runs.specs.declared.slots.Slot.TheVariants.{Empty, Keeps, Lends}
use Rattle.drv_table.specs.Opening.{list_run, head_run}

-- ---- the lowest runs

all_free : (n b : ℕ) → b < n → slice_get (replicate n Free) b ≡ Some Free
all_free zero b below = absurd (omega arith)
all_free (suc n) zero below = refl
all_free (suc n) (suc b) below = all_free n b (omega arith)

pub lowest_list : (n : ℕ) → 256 ≤ n → lowest_run (replicate n Free) 128 ≡ Some list_run
lowest_list n many =
    lowest_is (replicate n Free) 128 0
    (record {
      free_run = record { some = omega arith; one_page = omega arith; free = λ b from below. all_free n b (omega arith) };
      lowest = λ other there. omega arith;
    })

free_not_lent : Free ≡ Lent → ⊥
free_not_lent e = cc

pub lowest_head : (n : ℕ) → 256 ≤ n → lowest_run (filled (replicate n Free) 0 128 Lent) 2 ≡ Some head_run
lowest_head n many =
    let long : 0 + 128 ≤ length (replicate n Free) = omega (arith, length-replicate n Free) in
    lowest_is (filled (replicate n Free) 0 128 Lent) 2 128
    (record {
      free_run =
          record {
            some = omega arith;
            one_page = omega arith;
            free = λ b from below. slice_get-filled_after (replicate n Free) 0 128 Lent b long (omega arith) ∙ all_free n b (omega arith);
          };
      lowest = λ other there.
          ⊎_elim (λ (low : other < 128).
          absurd (free_not_lent (same_Some Free Lent (sym (there.free other (omega arith) (omega arith)) ∙ slice_get-filled_inside (replicate n Free) 0 128 Lent other long (omega arith) (omega arith)))))
          (λ (high : 128 ≤ other). high) (cases_lt other 128);
    })

abbrev run_at : ℕ → ℕ → Run
run_at n first = record { first = first; blocks = n }

least_step : (test : ℕ → Bool) (from count k : ℕ) (b : Bool) → (least test (suc from) count ≡ Some k → test k ≡ true) → test from ≡ b → cond b (Some from) (least test (suc from) count) ≡ Some k → test k ≡ true
least_step test from count k true rest this there = let e : from ≡ k = cc in ap test (sym e) ∙ this
least_step test from count k false rest this there = rest there

least_true : (test : ℕ → Bool) (from count k : ℕ) → least test from count ≡ Some k → test k ≡ true
least_true test from zero k there = absurd (cc)
least_true test from (suc count) k there = least_step test from count k (test from) (least_true test (suc from) count k) refl there

run_fits : (states : List BlockState) (n : ℕ) (r : Run) (o : Option ℕ) → least (λ first. is_free_run states first n) 0 (length states) ≡ o → option_map (λ first. run_at n first) o ≡ Some r → r.first + r.blocks ≤ length states
run_fits states n r None this there = absurd (cc)
run_fits states n r (Some k) this there =
    let e : ◌≡◌ {A = Run} (record { first = k; blocks = n }) r = same_Some (record { first = k; blocks = n }) r there in
    let fits : k + n ≤ length states = run_within states k n (free_if_passes states k n (least_true (λ first. is_free_run states first n) 0 (length states) k this)) in
    subst (λ (q : Run). q.first + q.blocks ≤ length states) e fits

run_blocks : (n : ℕ) (r : Run) (o : Option ℕ) → option_map (λ first. run_at n first) o ≡ Some r → r.blocks ≡ n
run_blocks n r None there = absurd (cc)
run_blocks n r (Some k) there =
    let e : ◌≡◌ {A = Run} (record { first = k; blocks = n }) r = same_Some (record { first = k; blocks = n }) r there in ap (λ (q : Run). q.blocks) (sym e)

pub lowest_fits : (states : List BlockState) (n : ℕ) (r : Run) → lowest_run states n ≡ Some r → r.first + r.blocks ≤ length states
unfolding lowest_run
lowest_fits states n r there = run_fits states n r (least (λ first. is_free_run states first n) 0 (length states)) refl there

pub lowest_blocks : (states : List BlockState) (n : ℕ) (r : Run) → lowest_run states n ≡ Some r → r.blocks ≡ n
unfolding lowest_run
lowest_blocks states n r there = run_blocks n r (least (λ first. is_free_run states first n) 0 (length states)) there

-- ---- a run that is taken and lent

filled_again : {X : Type 0} (xs : List X) (first n : ℕ) (x y : X) → first + n ≤ length xs → filled (filled xs first n x) first n y ≡ filled xs first n y
filled_again xs first n x y fits =
    let long = length-filled xs first n x fits in
    let fits2 : first + n ≤ length (filled xs first n x) = omega arith in
    same_lists (filled (filled xs first n x) first n y) (filled xs first n y) (omega (arith, length-filled (filled xs first n x) first n y fits2, length-filled xs first n y fits))
    (λ k d within.
    ⊎_elim (λ (low : k < first).
    get_or-filled_before (filled xs first n x) first n y k d fits2 low ∙ get_or-filled_before xs first n x k d fits low ∙ sym (get_or-filled_before xs first n y k d fits low))
    (λ (from : first ≤ k).
    ⊎_elim (λ (inside : k < first + n). get_or-filled_inside (filled xs first n x) first n y k d fits2 from inside ∙ sym (get_or-filled_inside xs first n y k d fits from inside))
    (λ (high : first + n ≤ k).
    get_or-filled_after (filled xs first n x) first n y k d fits2 high ∙ get_or-filled_after xs first n x k d fits high ∙ sym (get_or-filled_after xs first n y k d fits high)) (cases_lt k (first + n)))
    (cases_lt k first))

-- a holding whose run r was lent
abbrev pub lent_run : Holding → Run → Holding
lent_run h r = record { book = record { slots = set h.book.slots r.first (Lends r); taken = [] }; memory = with_states h.memory r Lent }

lend_one : (h : Holding) (r : Run) → r.first < length h.book.slots → r.first + r.blocks ≤ length h.memory.states → lend_slot (none_taken (with_run h r)) r.first (slot_of (set h.book.slots r.first (Keeps r)) r.first) ≡ lent_run h r
lend_one h r within fits =
    ap (λ s. lend_slot (none_taken (with_run h r)) r.first s) (get_or-set_same h.book.slots r.first (Keeps r) Empty within)
    ∙ ap (λ ss. record { book = record { slots = ss; taken = [] }; memory = with_states (with_states h.memory r Kept) r Lent }) (set-set h.book.slots r.first (Keeps r) (Lends r))
    ∙ ap (λ ss. record { book = record { slots = set h.book.slots r.first (Lends r); taken = [] }; memory = record h.memory { states = ss } }) (filled_again h.memory.states r.first r.blocks Kept Lent fits)

pub lend_with : (h : Holding) (r : Run) → h.book.taken ≡ [] → r.first < length h.book.slots → r.first + r.blocks ≤ length h.memory.states → lend_taken (with_run h r) ≡ lent_run h r
unfolding lend_runs
lend_with h r none within fits =
    ap (λ ts. lend_runs (none_taken (with_run h r)) (reverse (ts ++ r.first ∷ []))) none ∙ lend_one h r within fits

taken_is : (h : Holding) (n : ℕ) (r : Run) → lowest_run h.memory.states n ≡ Some r → take_run h n ≡ Some (with_run h r)
taken_is h n r lowest = ap (λ o. option_map (with_run h) o) lowest

pub taken_with : (h g : Holding) (n : ℕ) (r : Run) → take_run h n ≡ Some g → lowest_run h.memory.states n ≡ Some r → g ≡ with_run h r
taken_with h g n r there lowest = same_Some g (with_run h r) (sym there ∙ taken_is h n r lowest)

pub not_missing : (h : Holding) (n : ℕ) (r : Run) → take_run h n ≡ None → lowest_run h.memory.states n ≡ Some r → ⊥
not_missing h n r none lowest = let e : Some (with_run h r) ≡ None = sym (taken_is h n r lowest) ∙ none in cc

-- ---- what is written

stored_one : (k : Book) (m : Mem) (b at v : ℕ) (r : Run) → slot_of k.slots b ≡ Lends r → 32 * r.first ≤ at → at < 32 * (r.first + r.blocks) → store k m b at v ≡ with_word m at v
stored_one k m b at v r there from below =
    let inside : has_address r at ≡ true = grind (arith, nat_tests) in
    ap (λ s. cond (can_store s at) (with_word m at v) m) there ∙ ap (λ t. cond t (with_word m at v) m) inside

pub stored_all : (k : Book) (m : Mem) (b at : ℕ) (ws : List ℕ) (r : Run) → slot_of k.slots b ≡ Lends r → 32 * r.first ≤ at → at + 4 * length ws ≤ 32 * (r.first + r.blocks) → store_words k m b at ws ≡ with_words m at ws
unfolding store_words with_words_in
stored_all k m b at [] r there from fits = refl
stored_all k m b at (v ∷ vs) r there from fits =
    ap (λ q. store_words k q b (at + 4) vs) (stored_one k m b at v r there from (omega arith)) ∙ stored_all k (with_word m at v) b (at + 4) vs r there (omega arith) (omega arith)

pub frame_next : (k : Book) (m : Mem) (n i : ℕ) → slot_of k.slots 0 ≡ Lends list_run → n ≤ 1024 → i < n → with_words (store k m 0 (4 * i) 1) (4 * (i + 1)) (replicate (n - (i + 1)) 1) ≡ with_words m (4 * i) (replicate (n - i) 1)
unfolding with_words_in
frame_next k m n i there few below =
    let more : n - i ≡ suc (n - (i + 1)) = omega arith in
    let at : 4 * (i + 1) ≡ 4 * i + 4 = omega arith in
    ap (λ q. with_words q (4 * (i + 1)) (replicate (n - (i + 1)) 1)) (stored_one k m 0 (4 * i) 1 list_run there (omega arith) (omega arith))
    ∙ ap (λ a. with_words (with_word m (4 * i) 1) a (replicate (n - (i + 1)) 1)) at
    ∙ sym (ap (λ c. with_words m (4 * i) (replicate c 1)) more)

pub frames_done : (m : Mem) (n i : ℕ) → n ≤ i → with_words m (4 * i) (replicate (n - i) 1) ≡ m
unfolding with_words_in
frames_done m n i all = let e : n - i ≡ 0 = omega arith in ap (λ c. with_words m (4 * i) (replicate c 1)) e

twelve : (q : Qh) → length (qh_words q) ≡ 12
unfolding qh_words
twelve q = refl

-- the head, written after the frames
pub head_written : (k l : Book) (m q s new : Mem) (frames ws : List ℕ) (x y : Qh) → new ≡ store_words k m 128 4096 ws → ws ≡ qh_words x → x ≡ y → m ≡ with_words q 0 frames → holding k q ≡ holding l s → slot_of l.slots 128 ≡ Lends head_run → new ≡ with_words (with_words s 0 frames) 4096 (qh_words y)
head_written k l m q s new frames ws x y stored words same written both there =
    let book : k ≡ l = ap (λ (h : Holding). h.book) both in
    let slot : slot_of k.slots 128 ≡ Lends head_run = ap (λ (b : Book). slot_of b.slots 128) book ∙ there in
    stored
    ∙ ap (λ vs. store_words k m 128 4096 vs) (words ∙ ap qh_words same)
    ∙ stored_all k m 128 4096 (qh_words y) head_run slot (omega arith) (omega (arith, twelve y))
    ∙ ap (λ w. with_words w 4096 (qh_words y)) (written ∙ ap (λ (h : Holding). with_words h.memory 0 frames) both)

pub head_slot : (n : ℕ) → 256 ≤ n → slot_of (set (set (replicate n Empty) 0 (Lends list_run)) 128 (Lends head_run)) 128 ≡ Lends head_run
head_slot n many =
    get_or-set_same (set (replicate n Empty) 0 (Lends list_run)) 128 (Lends head_run) Empty (omega (arith, length-set (replicate n Empty) 0 (Lends list_run), length-replicate n Empty))
