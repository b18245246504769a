-- How memory goes on standing as the book says.
use Rattle.std.proofs.Common.{◌≡◌, ◌≢◌, ℕ, zero, suc, ◌+◌, ◌-◌, ◌*◌, ◌/◌, ◌%◌, ◌<◌, ◌≤◌, true, List, [], ◌∷◌, ◌++◌, length, get_or, set, slice_get, Some, arith, ap, sym, subst, ◌∙◌, ⊎_elim, refl, length-append, reverse, drop}
use Rattle.std.proofs.lemmas.Bool.{cases_lt, cases_eq}
use Rattle.std.proofs.lemmas.Bool.Decides.{nat_tests}
use Rattle.std.proofs.lemmas.List.{get_or-set_same, get_or-set_other, length-set, same_lists, get_or_default, set-get_or, reverse-append}
use Rattle.std.proofs.lemmas.Option.{slice_get_within, same_Some, slice_get-get_or}
use Rattle.std.proofs.Math.Seq.{set-set, drop-cons}
use Rattle.word_mem.specs.Runs.{Run, IsInRun}
use Rattle.word_mem.specs.Memory.{Mem, AreAll, filled, with_word, with_states, released, IsShaped}
use Rattle.word_mem.specs.Free.{IsTaken}
use Rattle.word_mem.specs.Owners.{IsHeldBy}
use Rattle.word_mem.specs.declared.blocks.BlockState.{BlockState}
use Rattle.word_mem.specs.declared.blocks.BlockState.TheVariants.{Free, Kept, Lent}
use Rattle.word_mem.proofs.Filled.{length-filled, slice_get-filled_inside, slice_get-filled_before, slice_get-filled_after, get_or-filled_inside, get_or-filled_before, get_or-filled_after}
use Rattle.word_mem.proofs.FreeTail.{run_within}
use Rattle.word_mem.proofs.Holders.{held_taken, held_lent, held_unlent, held_released, held_states, kept_all, lent_all, kept_within, lent_within}
use Rattle.mem_runs.specs.Book.{has_address, Book, Holding, holding, Stands, IsAt, kept_of, kept_in, lent_in, slot_of, slot_at, with_run, with_slot, lend_slot, drop_slot, release_slot, release_run, IsTakenFrom, none_taken, lend_runs, lend_taken, store, store_words, nothing, one_more}
use Rattle.mem_runs.specs.declared.slots.Slot.{Slot}
use Rattle.mem_runs.specs.declared.slots.Slot.TheVariants.{Empty, Keeps, Lends}
use Rattle.mem_runs.proofs.Changed.{count_set, slot_within, held_get, held_put}

not_empty_keeps : (slots : List Slot) (b : ℕ) (r : Run) → slot_of slots b ≡ Keeps r → slot_of slots b ≡ Empty → ⊥
not_empty_keeps slots b r there none = let e : Keeps r ≡ Empty = sym there ∙ none in cc

not_empty_lends : (slots : List Slot) (b : ℕ) (r : Run) → slot_of slots b ≡ Lends r → slot_of slots b ≡ Empty → ⊥
not_empty_lends slots b r there none = let e : Lends r ≡ Empty = sym there ∙ none in cc

pub keeps_within : (slots : List Slot) (b : ℕ) (r : Run) → slot_of slots b ≡ Keeps r → b < length slots
keeps_within slots b r there = slot_within slots b (not_empty_keeps slots b r there)

pub lends_within : (slots : List Slot) (b : ℕ) (r : Run) → slot_of slots b ≡ Lends r → b < length slots
lends_within slots b r there = slot_within slots b (not_empty_lends slots b r there)

-- what a slot says of its run
pub keeps_at : (h : Holding) (b : ℕ) (r : Run) → Stands h → slot_of h.book.slots b ≡ Keeps r → (r.first ≡ b) × (1 ≤ r.blocks)
keeps_at h b r stands there = subst (λ s. IsAt b s) there (stands.placed b)

pub lends_at : (h : Holding) (b : ℕ) (r : Run) → Stands h → slot_of h.book.slots b ≡ Lends r → (r.first ≡ b) × (1 ≤ r.blocks)
lends_at h b r stands there = subst (λ s. IsAt b s) there (stands.placed b)

-- the blocks of a run that the book has
pub keeps_all : (h : Holding) (b : ℕ) (r : Run) → Stands h → slot_of h.book.slots b ≡ Keeps r → AreAll h.memory Kept r
keeps_all h b r stands there =
    kept_all h.memory r (kept_in (set h.book.slots b Empty)) (lent_in (set h.book.slots b Empty))
    (held_get h.memory h.book.slots b (Keeps r) (keeps_within h.book.slots b r there) there stands.held) (keeps_at h b r stands there).1

pub lends_all : (h : Holding) (b : ℕ) (r : Run) → Stands h → slot_of h.book.slots b ≡ Lends r → AreAll h.memory Lent r
lends_all h b r stands there =
    lent_all h.memory r (kept_in (set h.book.slots b Empty)) (lent_in (set h.book.slots b Empty))
    (held_get h.memory h.book.slots b (Lends r) (lends_within h.book.slots b r there) there stands.held) (lends_at h b r stands there).1

-- a slot that is changed
placed_set : (slots : List Slot) (b : ℕ) (s : Slot) → b < length slots → IsAt b s → ((k : ℕ) → IsAt k (slot_of slots k)) → (k : ℕ) → IsAt k (slot_of (set slots b s) k)
placed_set slots b s below here placed k =
    ⊎_elim (λ (same : k ≡ b). subst (λ j. IsAt j (slot_of (set slots b s) j)) (sym same) (subst (λ t. IsAt b t) (sym (get_or-set_same slots b s Empty below)) here))
    (λ (differs : k ≢ b). subst (λ t. IsAt k t) (sym (get_or-set_other slots b k s Empty differs)) (placed k)) (cases_eq k b)

-- the Free blocks are clean once a word was written elsewhere
pub stands_word : (h : Holding) (r : Run) (s : BlockState) (at v : ℕ) → Stands h → s ≢ Free → AreAll h.memory s r → IsInRun r at → Stands (holding h.book (with_word h.memory at v))
stands_word h r s at v stands busy all here =
    record {
      held = held_states h.memory (with_word h.memory at v) (kept_in h.book.slots) (lent_in h.book.slots) refl stands.held;
      placed = stands.placed;
      clean = λ b i free below.
          get_or-set_other h.memory.words (at / 4) (8 * b + i) v 0
          (λ same.
          let block : b ≡ at / 32 = omega arith in
          let state : slice_get h.memory.states b ≡ Some s = ap (λ k. slice_get h.memory.states k) block ∙ all (at / 32) (omega (arith, here.from)) (omega (arith, here.below)) in
          busy (same_Some s Free (sym state ∙ free)))
          ∙ stands.clean b i free below;
      sizes = stands.sizes;
      few = stands.few;
    }

-- and after the states of a run were changed to others than Free
clean_states : (m : Mem) (r : Run) (s : BlockState) → s ≢ Free → r.first + r.blocks ≤ length m.states → ((b i : ℕ) → slice_get m.states b ≡ Some Free → i < 8 → get_or m.words (8 * b + i) 0 ≡ 0) → (b i : ℕ) → slice_get (with_states m r s).states b ≡ Some Free → i < 8 → get_or m.words (8 * b + i) 0 ≡ 0
clean_states m r s busy fits clean b i free below =
    ⊎_elim (λ (low : b < r.first). clean b i (sym (slice_get-filled_before m.states r.first r.blocks s b fits low) ∙ free) below)
    (λ (from : r.first ≤ b).
    ⊎_elim (λ (inside : b < r.first + r.blocks). absurd (busy (same_Some s Free (sym (slice_get-filled_inside m.states r.first r.blocks s b fits from inside) ∙ free))))
    (λ (high : r.first + r.blocks ≤ b). clean b i (sym (slice_get-filled_after m.states r.first r.blocks s b fits high) ∙ free) below) (cases_lt b (r.first + r.blocks)))
    (cases_lt b r.first)

clean_released : (m : Mem) (r : Run) → IsShaped m → r.first + r.blocks ≤ length m.states → ((b i : ℕ) → slice_get m.states b ≡ Some Free → i < 8 → get_or m.words (8 * b + i) 0 ≡ 0) → (b i : ℕ) → slice_get (released m r).states b ≡ Some Free → i < 8 → get_or (released m r).words (8 * b + i) 0 ≡ 0
clean_released m r shape fits clean b i free below =
    let room : 8 * r.first + 8 * r.blocks ≤ length m.words = omega (arith, shape.eight_each) in
    ⊎_elim (λ (low : b < r.first).
    get_or-filled_before m.words (8 * r.first) (8 * r.blocks) 0 (8 * b + i) 0 room (omega arith) ∙ clean b i (sym (slice_get-filled_before m.states r.first r.blocks Free b fits low) ∙ free) below)
    (λ (from : r.first ≤ b).
    ⊎_elim (λ (inside : b < r.first + r.blocks). get_or-filled_inside m.words (8 * r.first) (8 * r.blocks) 0 (8 * b + i) 0 room (omega arith) (omega arith))
    (λ (high : r.first + r.blocks ≤ b).
    get_or-filled_after m.words (8 * r.first) (8 * r.blocks) 0 (8 * b + i) 0 room (omega arith) ∙ clean b i (sym (slice_get-filled_after m.states r.first r.blocks Free b fits high) ∙ free) below) (cases_lt b (r.first + r.blocks)))
    (cases_lt b r.first)

pub kept_not_free : Kept ≢ Free
kept_not_free e = cc

pub lent_not_free : Lent ≢ Free
lent_not_free e = cc

-- lending a run that was taken
pub stands_lent : (h : Holding) (b : ℕ) (r : Run) → Stands h → slot_of h.book.slots b ≡ Keeps r → suc (length h.book.taken) ≤ length (kept_in h.book.slots) → Stands (holding (with_slot h.book b (Lends r)) (with_states h.memory r Lent))
stands_lent h b r stands there more =
    let at = keeps_at h b r stands there in
    let below = keeps_within h.book.slots b r there in
    let held = held_get h.memory h.book.slots b (Keeps r) below there stands.held in
    let fits = kept_within h.memory r (kept_in (set h.book.slots b Empty)) (lent_in (set h.book.slots b Empty)) held at.1 in
    record {
      held = held_put (with_states h.memory r Lent) h.book.slots b (Lends r) below (held_lent h.memory r (kept_in (set h.book.slots b Empty)) (lent_in (set h.book.slots b Empty)) at.1 held);
      placed = placed_set h.book.slots b (Lends r) below at stands.placed;
      clean = clean_states h.memory r Lent lent_not_free fits stands.clean;
      sizes = omega (arith, stands.sizes, length-set h.book.slots b (Lends r), length-filled h.memory.states r.first r.blocks Lent fits);
      few = omega (arith, more, count_set h.book.slots b (Lends r) below, ap (λ s. length (kept_of s)) there);
    }

-- giving back a run that was taken
pub stands_dropped : (h : Holding) (b : ℕ) (r : Run) → IsShaped h.memory → Stands h → slot_of h.book.slots b ≡ Keeps r → suc (length h.book.taken) ≤ length (kept_in h.book.slots) → Stands (holding (with_slot h.book b Empty) (released h.memory r))
stands_dropped h b r shape stands there more =
    let at = keeps_at h b r stands there in
    let below = keeps_within h.book.slots b r there in
    let held = held_get h.memory h.book.slots b (Keeps r) below there stands.held in
    let fits = kept_within h.memory r (kept_in (set h.book.slots b Empty)) (lent_in (set h.book.slots b Empty)) held at.1 in
    record {
      held = held_released h.memory r (kept_in (set h.book.slots b Empty)) (lent_in (set h.book.slots b Empty)) at.1 held;
      placed = placed_set h.book.slots b Empty below tt stands.placed;
      clean = clean_released h.memory r shape fits stands.clean;
      sizes = omega (arith, stands.sizes, length-set h.book.slots b Empty, length-filled h.memory.states r.first r.blocks Free fits);
      few = omega (arith, more, count_set h.book.slots b Empty below, ap (λ s. length (kept_of s)) there);
    }

-- filled twice, and filled with what stood there
filled_twice : {X : Type 0} (xs : List X) (first n : ℕ) (x y : X) → first + n ≤ length xs → filled (filled xs first n x) first n y ≡ filled xs first n y
filled_twice xs first n x y fits =
    let once = length-filled xs first n x fits in
    same_lists (filled (filled xs first n x) first n y) (filled xs first n y)
    (omega (arith, once, length-filled (filled xs first n x) first n y (omega (arith, once)), length-filled xs first n y fits))
    (λ k d below.
    ⊎_elim (λ (low : k < first).
    get_or-filled_before (filled xs first n x) first n y k d (omega (arith, once)) low ∙ get_or-filled_before xs first n x k d fits low ∙ sym (get_or-filled_before xs first n y k d fits low))
    (λ (from : first ≤ k).
    ⊎_elim (λ (inside : k < first + n). get_or-filled_inside (filled xs first n x) first n y k d (omega (arith, once)) from inside ∙ sym (get_or-filled_inside xs first n y k d fits from inside))
    (λ (high : first + n ≤ k).
    get_or-filled_after (filled xs first n x) first n y k d (omega (arith, once)) high ∙ get_or-filled_after xs first n x k d fits high ∙ sym (get_or-filled_after xs first n y k d fits high)) (cases_lt k (first + n)))
    (cases_lt k first))

filled_same : {X : Type 0} (xs : List X) (first n : ℕ) (x : X) → first + n ≤ length xs → ((k : ℕ) (d : X) → first ≤ k → k < first + n → get_or xs k d ≡ x) → filled xs first n x ≡ xs
filled_same xs first n x fits each =
    same_lists (filled xs first n x) xs (length-filled xs first n x fits)
    (λ k d below.
    ⊎_elim (λ (low : k < first). get_or-filled_before xs first n x k d fits low)
    (λ (from : first ≤ k).
    ⊎_elim (λ (inside : k < first + n). get_or-filled_inside xs first n x k d fits from inside ∙ sym (each k d from inside))
    (λ (high : first + n ≤ k). get_or-filled_after xs first n x k d fits high) (cases_lt k (first + n)))
    (cases_lt k first))

pub released_once : (m : Mem) (r : Run) → r.first + r.blocks ≤ length m.states → released (with_states m r Kept) r ≡ released m r
released_once m r fits = ap (λ ss. record (released m r) { states = ss }) (filled_twice m.states r.first r.blocks Kept Free fits)

-- giving back a run that was lent
pub stands_released : (h : Holding) (b : ℕ) (r : Run) → IsShaped h.memory → Stands h → slot_of h.book.slots b ≡ Lends r → Stands (holding (with_slot h.book b Empty) (released h.memory r))
stands_released h b r shape stands there =
    let at = lends_at h b r stands there in
    let below = lends_within h.book.slots b r there in
    let rest = set h.book.slots b Empty in
    let held = held_get h.memory h.book.slots b (Lends r) below there stands.held in
    let fits = lent_within h.memory r (kept_in rest) (lent_in rest) held at.1 in
    let unlent = held_unlent h.memory r (kept_in rest) (lent_in rest) at.1 held in
    let freed = held_released (with_states h.memory r Kept) r (kept_in rest) (lent_in rest) at.1 unlent in
    record {
      held = subst (λ m. IsHeldBy m (kept_in rest) (lent_in rest)) (released_once h.memory r fits) freed;
      placed = placed_set h.book.slots b Empty below tt stands.placed;
      clean = clean_released h.memory r shape fits stands.clean;
      sizes = omega (arith, stands.sizes, length-set h.book.slots b Empty, length-filled h.memory.states r.first r.blocks Free fits);
      few = omega (arith, stands.few, count_set h.book.slots b Empty below, ap (λ s. length (kept_of s)) there);
    }

-- no run of the book begins in a Free block
slot_empty_at : (h : Holding) (b : ℕ) (s : Slot) → Stands h → slot_of h.book.slots b ≡ s → slice_get h.memory.states b ≡ Some Free → s ≡ Empty
slot_empty_at h b Empty stands there free = refl
slot_empty_at h b (Keeps r) stands there free =
    let at = keeps_at h b r stands there in
    absurd (kept_not_free (same_Some Kept Free (sym (keeps_all h b r stands there b (omega (arith, at.0)) (omega (arith, at.0, at.1))) ∙ free)))
slot_empty_at h b (Lends r) stands there free =
    let at = lends_at h b r stands there in
    absurd (lent_not_free (same_Some Lent Free (sym (lends_all h b r stands there b (omega (arith, at.0)) (omega (arith, at.0, at.1))) ∙ free)))

slot_empty : (h : Holding) (b : ℕ) → Stands h → slice_get h.memory.states b ≡ Some Free → slot_of h.book.slots b ≡ Empty
slot_empty h b stands free = slot_empty_at h b (slot_of h.book.slots b) stands refl free

get_free : (states : List BlockState) (k : ℕ) (d : BlockState) → slice_get states k ≡ Some Free → get_or states k d ≡ Free
get_free states k d free =
    same_Some (get_or states k d) Free (sym (slice_get-get_or states k d (slice_get_within states k Free free)) ∙ free)

-- taking a run
pub stands_taken : (h : Holding) (n : ℕ) (r : Run) → Stands h → IsTaken h.memory.states n (Some r) → Stands (with_run h r)
stands_taken h n r stands taken =
    let first = taken.1.free_run.free r.first (omega arith) (omega (arith, taken.1.free_run.some)) in
    let none = slot_empty h r.first stands first in
    let inside = run_within h.memory.states r.first n taken.1.free_run in
    let fits : r.first + r.blocks ≤ length h.memory.states = omega (arith, inside, taken.0) in
    let some : 1 ≤ r.blocks = omega (arith, taken.0, taken.1.free_run.some) in
    let below : r.first < length h.book.slots = omega (arith, stands.sizes, fits, some) in
    let held = held_get h.memory h.book.slots r.first Empty below none stands.held in
    let rest = set h.book.slots r.first Empty in
    record {
      held = held_put (with_states h.memory r Kept) h.book.slots r.first (Keeps r) below (held_taken h.memory n r (kept_in rest) (lent_in rest) taken held);
      placed = placed_set h.book.slots r.first (Keeps r) below (refl, some) stands.placed;
      clean = clean_states h.memory r Kept kept_not_free fits stands.clean;
      sizes = omega (arith, stands.sizes, length-set h.book.slots r.first (Keeps r), length-filled h.memory.states r.first r.blocks Kept fits);
      few = omega (arith, stands.few, count_set h.book.slots r.first (Keeps r) below, ap (λ s. length (kept_of s)) none, length-append h.book.taken (r.first ∷ []));
    }

-- a run that is taken and given back
pub undone : (h : Holding) (n : ℕ) (r : Run) → IsShaped h.memory → Stands h → IsTaken h.memory.states n (Some r) → (set (set h.book.slots r.first (Keeps r)) r.first Empty ≡ h.book.slots) × (released (with_states h.memory r Kept) r ≡ h.memory)
undone h n r shape stands taken =
    let first = taken.1.free_run.free r.first (omega arith) (omega (arith, taken.1.free_run.some)) in
    let none = slot_empty h r.first stands first in
    let inside = run_within h.memory.states r.first n taken.1.free_run in
    let fits : r.first + r.blocks ≤ length h.memory.states = omega (arith, inside, taken.0) in
    let room : 8 * r.first + 8 * r.blocks ≤ length h.memory.words = omega (arith, shape.eight_each, fits) in
    let slots : set (set h.book.slots r.first (Keeps r)) r.first Empty ≡ h.book.slots =
    set-set h.book.slots r.first (Keeps r) Empty ∙ ap (λ s. set h.book.slots r.first s) (sym none) ∙ set-get_or h.book.slots r.first Empty in
    let free : filled h.memory.states r.first r.blocks Free ≡ h.memory.states =
    filled_same h.memory.states r.first r.blocks Free fits (λ k d from below. get_free h.memory.states k d (taken.1.free_run.free k from (omega (arith, taken.0)))) in
    let words : filled h.memory.words (8 * r.first) (8 * r.blocks) 0 ≡ h.memory.words =
    filled_same h.memory.words (8 * r.first) (8 * r.blocks) 0 room
    (λ k d from below.
    get_or_default h.memory.words k d 0 (omega arith)
    ∙ ap (λ j. get_or h.memory.words j 0) (let e : k ≡ 8 * (k / 8) + k % 8 = omega arith in e)
    ∙ stands.clean (k / 8) (k % 8) (taken.1.free_run.free (k / 8) (omega arith) (omega (arith, taken.0))) (omega arith)) in
    (slots, released_once h.memory r fits ∙ ap (λ ws. record (released h.memory r) { words = ws }) words ∙ ap (λ ss. record h.memory { states = ss }) free)

-- the test for an address of a run means what it says
pub in_run_from : (r : Run) (at : ℕ) → has_address r at ≡ true → IsInRun r at
in_run_from r at test =
    let parts : (32 * r.first ≤ at) × (at < 32 * (r.first + r.blocks)) = grind (arith, nat_tests) in
    record { from = parts.0; below = parts.1 }

-- a slot that was looked up
pub slot_from : (slots : List Slot) (b : ℕ) (s : Slot) → slice_get slots b ≡ Some s → slot_of slots b ≡ s
slot_from slots b s found = same_Some (slot_of slots b) s (sym (slice_get-get_or slots b Empty (slice_get_within slots b s found)) ∙ found)

-- a slot that is taken out, and put back or changed
pub put_changed : (k : Book) (b : ℕ) (s t : Slot) → with_slot (with_slot k b s) b t ≡ with_slot k b t
put_changed k b s t = ap (λ ss. record k { slots = ss }) (set-set k.slots b s t)

pub put_back : (k : Book) (b : ℕ) (s : Slot) → slot_of k.slots b ≡ s → with_slot (with_slot k b Empty) b s ≡ k
put_back k b s there =
    put_changed k b Empty s ∙ ap (λ ss. record k { slots = ss }) (ap (λ t. set k.slots b t) (sym there) ∙ set-get_or k.slots b Empty)

pub same_holding : (k l : Book) (m q : Mem) → k ≡ l → m ≡ q → holding k m ≡ holding l q
same_holding k l m q books memories = ap (λ b. holding b m) books ∙ ap (λ n. holding l n) memories

-- the arms of lending, giving back and releasing
pub lent_keeps : (h : Holding) (b : ℕ) (r : Run) (k : Book) (m : Mem) → slot_of h.book.slots b ≡ Keeps r → k ≡ with_slot (with_slot h.book b Empty) b (Lends r) → m ≡ with_states h.memory r Lent → holding k m ≡ lend_slot h b (slot_at h b)
lent_keeps h b r k m there book memory =
    same_holding k (with_slot h.book b (Lends r)) m (with_states h.memory r Lent) (book ∙ put_changed h.book b Empty (Lends r)) memory
    ∙ ap (λ s. lend_slot h b s) (sym there)

pub lent_lends : (h : Holding) (b : ℕ) (r : Run) (k : Book) → slot_of h.book.slots b ≡ Lends r → k ≡ with_slot (with_slot h.book b Empty) b (Lends r) → holding k h.memory ≡ lend_slot h b (slot_at h b)
lent_lends h b r k there book =
    same_holding k h.book h.memory h.memory (book ∙ put_back h.book b (Lends r) there) refl ∙ ap (λ s. lend_slot h b s) (sym there)

pub dropped_keeps : (h : Holding) (b : ℕ) (r : Run) (k : Book) (m : Mem) → slot_of h.book.slots b ≡ Keeps r → k ≡ with_slot h.book b Empty → m ≡ released h.memory r → holding k m ≡ drop_slot h b (slot_at h b)
dropped_keeps h b r k m there book memory =
    same_holding k (with_slot h.book b Empty) m (released h.memory r) book memory ∙ ap (λ s. drop_slot h b s) (sym there)

pub dropped_lends : (h : Holding) (b : ℕ) (r : Run) (k : Book) → slot_of h.book.slots b ≡ Lends r → k ≡ with_slot (with_slot h.book b Empty) b (Lends r) → holding k h.memory ≡ drop_slot h b (slot_at h b)
dropped_lends h b r k there book =
    same_holding k h.book h.memory h.memory (book ∙ put_back h.book b (Lends r) there) refl ∙ ap (λ s. drop_slot h b s) (sym there)

pub released_keeps : (h : Holding) (b : ℕ) (r : Run) (k : Book) → slot_of h.book.slots b ≡ Keeps r → k ≡ with_slot (with_slot h.book b Empty) b (Keeps r) → holding k h.memory ≡ release_run h b
released_keeps h b r k there book =
    same_holding k h.book h.memory h.memory (book ∙ put_back h.book b (Keeps r) there) refl ∙ ap (λ s. release_slot h b s) (sym there)

pub released_lends : (h : Holding) (b : ℕ) (r : Run) (k : Book) (m : Mem) → slot_of h.book.slots b ≡ Lends r → k ≡ with_slot h.book b Empty → m ≡ released h.memory r → holding k m ≡ release_run h b
released_lends h b r k m there book memory =
    same_holding k (with_slot h.book b Empty) m (released h.memory r) book memory ∙ ap (λ s. release_slot h b s) (sym there)

pub within_lent : (h : Holding) (b : ℕ) (r : Run) → Stands h → slot_of h.book.slots b ≡ Lends r → r.first + r.blocks ≤ length h.memory.states
within_lent h b r stands there =
    lent_within h.memory r (kept_in (set h.book.slots b Empty)) (lent_in (set h.book.slots b Empty))
    (held_get h.memory h.book.slots b (Lends r) (lends_within h.book.slots b r there) there stands.held) (lends_at h b r stands there).1

pub made_book : (ss us : List Slot) (ts vs : List ℕ) (b d : ℕ) (x : Slot) → ss ≡ us → ts ≡ vs → b ≡ d → with_slot (record { slots = ss; taken = ts }) b x ≡ record { slots = set us d x; taken = vs }
made_book ss us ts vs b d x slots taken place =
    ap (λ u. with_slot (record { slots = u; taken = ts }) b x) slots
    ∙ ap (λ v. with_slot (record { slots = us; taken = v }) b x) taken
    ∙ ap (λ k. with_slot (record { slots = us; taken = vs }) k x) place

-- ---- one of the runs taken last after the other

none_lent : (h : Holding) (b : ℕ) (s : Slot) → none_taken (lend_slot h b s) ≡ lend_slot (none_taken h) b s
none_lent h b Empty = refl
none_lent h b _ = refl

taken_lent : (h : Holding) (b : ℕ) (s : Slot) → (lend_slot h b s).book.taken ≡ h.book.taken
taken_lent h b Empty = refl
taken_lent h b _ = refl

reverse_last : (ts : List ℕ) (b : ℕ) → reverse (ts ++ b ∷ []) ≡ b ∷ reverse ts
reverse_last ts b = reverse-append ts (b ∷ [])

pub lend_last : (h : Holding) (k : Book) (b : ℕ) → h.book.taken ≡ k.taken ++ b ∷ [] → k.slots ≡ h.book.slots → lend_taken (lend_slot (holding k h.memory) b (slot_of k.slots b)) ≡ lend_taken h
unfolding lend_runs
lend_last h k b last slots =
    let p = holding k h.memory in
    let s = slot_of k.slots b in
    let left : lend_taken (lend_slot p b s) ≡ lend_runs (lend_slot (none_taken p) b s) (reverse k.taken) =
    ap (λ t. lend_runs (none_taken (lend_slot p b s)) (reverse t)) (taken_lent p b s) ∙ ap (λ g. lend_runs g (reverse k.taken)) (none_lent p b s) in
    let right : lend_taken h ≡ lend_runs (lend_slot (none_taken h) b (slot_of h.book.slots b)) (reverse k.taken) =
    ap (λ t. lend_runs (none_taken h) t) (ap reverse last ∙ reverse_last k.taken b) in
    let same : none_taken p ≡ none_taken h = ap (λ ss. holding (record { slots = ss; taken = [] }) h.memory) slots in
    left ∙ ap (λ g. lend_runs (lend_slot g b s) (reverse k.taken)) same ∙ ap (λ ss. lend_runs (lend_slot (none_taken h) b (slot_of ss b)) (reverse k.taken)) slots ∙ sym right

pub lent_none : (h : Holding) → h.book.taken ≡ [] → lend_taken h ≡ h
unfolding lend_runs
lent_none h none =
    ap (λ t. lend_runs (none_taken h) (reverse t)) none ∙ ap (λ t. record h { book = record h.book { taken = t } }) (sym none)

-- the last of two lists that are the same
snoc_same : (xs ys : List ℕ) (a b : ℕ) → xs ++ a ∷ [] ≡ ys ++ b ∷ [] → (xs ≡ ys) × (a ≡ b)
snoc_same [] [] a b e = (refl, cc)
snoc_same [] (y ∷ ys) a b e = absurd (omega (arith, ap length e, length-append ys (b ∷ [])))
snoc_same (x ∷ xs) [] a b e = absurd (omega (arith, ap length e, length-append xs (a ∷ [])))
snoc_same (x ∷ xs) (y ∷ ys) a b e =
    let rest = snoc_same xs ys a b (ap (drop 1) e) in
    let first : x ≡ y = ap (λ l. get_or l 0 0) e in
    (cc, rest.1)

never_empty : (xs : List ℕ) (a : ℕ) → [] ≡ xs ++ a ∷ [] → ⊥
never_empty xs a e = omega (arith, ap length e, length-append xs (a ∷ []))

pub drop_last : (before h : Holding) (k : Book) (b : ℕ) → IsTakenFrom before h → length before.book.taken < length h.book.taken → h.book.taken ≡ k.taken ++ b ∷ [] → k.slots ≡ h.book.slots → IsTakenFrom before (drop_slot (holding k h.memory) b (slot_of k.slots b))
drop_last before _ k b nothing more last slots = absurd (omega arith)
drop_last before _ k b (one_more h n r from stands shape taken) more last slots =
    let parts = snoc_same h.book.taken k.taken r.first b last in
    let back = undone h n r shape stands taken in
    let first = taken.1.free_run.free r.first (omega arith) (omega (arith, taken.1.free_run.some)) in
    let inside = run_within h.memory.states r.first n taken.1.free_run in
    let below : r.first < length h.book.slots = omega (arith, stands.sizes, inside, taken.0, taken.1.free_run.some) in
    let slot : slot_of k.slots b ≡ Keeps r =
    ap (λ ss. slot_of ss b) slots ∙ ap (λ j. slot_of (set h.book.slots r.first (Keeps r)) j) (sym parts.1) ∙ get_or-set_same h.book.slots r.first (Keeps r) Empty below in
    let book : with_slot k b Empty ≡ h.book =
    made_book k.slots (set h.book.slots r.first (Keeps r)) k.taken h.book.taken b r.first Empty slots (sym parts.0) (sym parts.1)
    ∙ ap (λ ss. record h.book { slots = ss }) back.0 in
    let same : drop_slot (holding k (with_states h.memory r Kept)) b (slot_of k.slots b) ≡ h =
    ap (λ s. drop_slot (holding k (with_states h.memory r Kept)) b s) slot ∙ same_holding (with_slot k b Empty) h.book (released (with_states h.memory r Kept) r) h.memory book back.1 in
    subst (λ g. IsTakenFrom before g) (sym same) from

taken_longer : (before h : Holding) → IsTakenFrom before h → length before.book.taken ≤ length h.book.taken
taken_longer before _ nothing = omega arith
taken_longer before _ (one_more h n r from stands shape taken) =
    omega (arith, taken_longer before h from, length-append h.book.taken (r.first ∷ []))

pub nothing_taken : (before h : Holding) → IsTakenFrom before h → length h.book.taken ≤ length before.book.taken → h ≡ before
nothing_taken before _ nothing few = refl
nothing_taken before _ (one_more h n r from stands shape taken) few =
    absurd (omega (arith, few, taken_longer before h from, length-append h.book.taken (r.first ∷ [])))

drop_past : (xs : List ℕ) (i : ℕ) → length xs ≤ i → drop i xs ≡ []
drop_past [] zero past = refl
drop_past [] (suc i) past = refl
drop_past (x ∷ xs) zero past = absurd (omega arith)
drop_past (x ∷ xs) (suc i) past = drop_past xs i (omega arith)

-- a word of a list that is stored
pub store_more : (k : Book) (m : Mem) (b at : ℕ) (words : List ℕ) (i : ℕ) → i < length words → store_words k (store k m b at (get_or words i 0)) b (at + 4) (drop (suc i) words) ≡ store_words k m b at (drop i words)
unfolding store_words
store_more k m b at words i below = ap (λ ws. store_words k m b at ws) (sym (drop-cons words i 0 below))

pub store_all : (k : Book) (m : Mem) (b at : ℕ) (words : List ℕ) (i : ℕ) → length words ≤ i → store_words k m b at (drop i words) ≡ m
unfolding store_words
store_all k m b at words i past = ap (λ ws. store_words k m b at ws) (drop_past words i past)

-- the word of an address that isn't aligned
pub same_word : (m : Mem) (at v : ℕ) → with_word m (at - at % 4) v ≡ with_word m at v
same_word m at v = let e : (at - at % 4) / 4 ≡ at / 4 = omega arith in ap (λ i. record m { words = set m.words i v }) e
