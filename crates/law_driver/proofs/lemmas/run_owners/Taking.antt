-- Runs that are taken one after the other: each begins where none began, and all others stay.
use Rattle.std.proofs.Common.{◌≡◌, ◌≢◌, ℕ, zero, suc, ◌<◌, ◌≤◌, Bool, true, false, cond, List, [], ◌∷◌, ◌++◌, length, get_or, slice_get, Option, Some, None, Result, Ok, Err, option_map, ap, sym, subst, ◌∙◌, ⊎_elim, refl, arith, append_assoc}
use Rattle.std.proofs.lemmas.Bool.{cases_eq, cases_lt, cases_Bool, false≢true}
use Rattle.std.proofs.lemmas.List.{get_or-set_same, get_or-set_other, length-set}
use Rattle.std.proofs.lemmas.Option.{same_Some}
use Rattle.law_driver.proofs.Common.{ok_same, blocks_run}
use Rattle.usb_base.specs.declared.reports.OfferError.{OfferError}
use Rattle.usb_base.specs.declared.reports.OfferError.TheVariants as errors
use Rattle.word_mem.specs.Runs.{Run}
use Rattle.word_mem.specs.Free.{IsLowest, IsTaken, is_free_run, least, lowest_run, longest_run}
use Rattle.word_mem.specs.declared.blocks.BlockState.{BlockState}
use Rattle.word_mem.specs.declared.blocks.BlockState.TheVariants.{Free, Kept, Lent}
use Rattle.word_mem.proofs.Search.{free_if_passes, passes_if_free}
use Rattle.word_mem.proofs.FreeTail.{run_within}
use Rattle.mem_runs.specs.Book.{Holding, Stands, slot_of, with_run, take_run}
use Rattle.mem_runs.specs.declared.slots.Slot.{Slot}
use Rattle.mem_runs.specs.declared.slots.Slot.TheVariants.{Empty, Keeps, Lends}
use Rattle.mem_runs.proofs.Standing.{keeps_at, lends_at, keeps_all, lends_all, kept_not_free, lent_not_free, stands_taken}
use Rattle.drv_table.specs.Accepting.{take_runs}
use Rattle.claims_driver.specs.Owners.{HasBlocks, HasRun}

-- ---- the lowest run

least_is : (test : ℕ → Bool) (from count k : ℕ) → least test from count ≡ Some k → (test k ≡ true) × ((j : ℕ) → from ≤ j → j < k → test j ≡ false)
least_is test from zero k e = absurd (cc)
least_is test from (suc count) k e =
    ⊎_elim
    (λ (on : test from ≡ true).
    let is : from ≡ k = same_Some from k (sym (ap (λ b. cond b (Some from) (least test (suc from) count)) on) ∙ e) in
    (ap test (sym is) ∙ on, λ j low high. absurd (omega arith)))
    (λ (off : test from ≡ false).
    let rest = least_is test (suc from) count k (sym (ap (λ b. cond b (Some from) (least test (suc from) count)) off) ∙ e) in
    (rest.0, λ j low high. ⊎_elim (λ (same : j ≡ from). ap test same ∙ off) (λ (differs : j ≢ from). rest.1 j (omega arith) high) (cases_eq j from)))
    (cases_Bool (test from))

-- a test that is given at all tells its place
pub record IsLowestRun (states : List BlockState) (n : ℕ) (r : Run) : Type 0 where
  pub blocks : r.blocks ≡ n
  pub low : IsLowest states n r.first

mapped : (states : List BlockState) (n : ℕ) (r : Run) (o : Option ℕ) → least (λ first. is_free_run states first n) 0 (length states) ≡ o → option_map (λ (k : ℕ). let q : Run = record { first = k; blocks = n } in q) o ≡ Some r → IsLowestRun states n r
mapped states n r None is e = absurd (cc)
mapped states n r (Some k) is e =
    let same : ◌≡◌ {A = Run} (record { first = k; blocks = n }) r = same_Some (record { first = k; blocks = n }) r e in
    let l = least_is (λ first. is_free_run states first n) 0 (length states) k is in
    let run = free_if_passes states k n l.0 in
    subst (IsLowestRun states n) same
    (record {
      blocks = refl;
      low = record {
        free_run = run;
        lowest = λ other free.
            ⊎_elim (λ (below : other < k). absurd (false≢true (sym (l.1 other (omega arith) below) ∙ passes_if_free states other n free)))
            (λ (high : k ≤ other). high) (cases_lt other k);
      };
    })

pub lowest_taken : (states : List BlockState) (n : ℕ) (r : Run) → lowest_run states n ≡ Some r → IsTaken states n (Some r)
unfolding lowest_run
lowest_taken states n r e =
    let l = mapped states n r (least (λ first. is_free_run states first n) 0 (length states)) refl e in (l.blocks, l.low)

-- ---- no run begins in a Free block

empty_at : (h : Holding) (b : ℕ) (s : Slot) → Stands h → slot_of h.book.slots b ≡ s → slice_get h.memory.states b ≡ Some Free → s ≡ Empty
empty_at h b Empty stands there free = refl
empty_at h b (Keeps r) stands there free =
    let at = keeps_at h b r stands there in
    absurd (kept_not_free (same_Some Kept Free (sym (keeps_all h b r stands there b (omega (arith, at.0)) (omega (arith, at.0, at.1))) ∙ free)))
empty_at h b (Lends r) stands there free =
    let at = lends_at h b r stands there in
    absurd (lent_not_free (same_Some Lent Free (sym (lends_all h b r stands there b (omega (arith, at.0)) (omega (arith, at.0, at.1))) ∙ free)))

-- ---- one run

pub record IsTakenAt (h g : Holding) (n : ℕ) (b : ℕ) : Type 0 where
  pub taken : g.book.taken ≡ h.book.taken ++ b ∷ []
  pub empty : slot_of h.book.slots b ≡ Empty
  pub new : HasBlocks n (slot_of g.book.slots b)
  pub others : (c : ℕ) → c ≢ b → slot_of g.book.slots c ≡ slot_of h.book.slots c
  pub many : length g.book.slots ≡ length h.book.slots
  pub stands : Stands g
  pub words : g.memory.words ≡ h.memory.words

one_taken : (h : Holding) (n : ℕ) (r : Run) → Stands h → lowest_run h.memory.states n ≡ Some r → IsTakenAt h (with_run h r) n r.first
one_taken h n r stands low =
    let taken = lowest_taken h.memory.states n r low in
    let run = taken.1.free_run in
    let first = run.free r.first (omega arith) (omega (arith, run.some)) in
    let inside = run_within h.memory.states r.first n run in
    let below : r.first < length h.book.slots = omega (arith, stands.sizes, inside, run.some) in
    record {
      taken = refl;
      empty = empty_at h r.first (slot_of h.book.slots r.first) stands refl first;
      new = subst (HasBlocks n) (sym (get_or-set_same h.book.slots r.first (Keeps r) Empty below)) taken.0;
      others = λ c differs. get_or-set_other h.book.slots r.first c (Keeps r) Empty differs;
      many = length-set h.book.slots r.first (Keeps r);
      stands = stands_taken h n r stands taken;
      words = refl;
    }

pub record IsTakenSome (h g : Holding) (n : ℕ) : Type 0 where
  pub first : ℕ
  pub at : IsTakenAt h g n first

taken_some : (h g : Holding) (n : ℕ) (o : Option Run) → Stands h → lowest_run h.memory.states n ≡ o → option_map (with_run h) o ≡ Some g → IsTakenSome h g n
taken_some h g n None stands low e = absurd (cc)
taken_some h g n (Some r) stands low e = record { first = r.first; at = subst (λ (k : Holding). IsTakenAt h k n r.first) (same_Some (with_run h r) g e) (one_taken h n r stands low) }

-- ---- some runs

-- g is h with runs of ns blocks taken, which begin in the blocks bs
pub record AreTaken (h g : Holding) (ns bs : List ℕ) : Type 0 where
  pub taken : g.book.taken ≡ h.book.taken ++ bs
  pub long : length bs ≡ length ns
  pub old : (c : ℕ) → HasRun (slot_of h.book.slots c) → slot_of g.book.slots c ≡ slot_of h.book.slots c
  pub fresh : (i : ℕ) → i < length bs → slot_of h.book.slots (get_or bs i 0) ≡ Empty
  pub new : (i : ℕ) → i < length bs → HasBlocks (get_or ns i 0) (slot_of g.book.slots (get_or bs i 0))
  pub distinct : (i j : ℕ) → i < j → j < length bs → get_or bs j 0 ≢ get_or bs i 0
  pub many : length g.book.slots ≡ length h.book.slots
  pub stands : Stands g
  pub words : g.memory.words ≡ h.memory.words

pub run_some : (s : Slot) → HasRun s → s ≢ Empty
run_some Empty h e = h
run_some _ h e = cc

one_more : (h k g : Holding) (n b : ℕ) (ns bs : List ℕ) → IsTakenAt h k n b → AreTaken k g ns bs → AreTaken h g (n ∷ ns) (b ∷ bs)
one_more h k g n b ns bs one rest =
    record {
      taken = rest.taken ∙ ap (λ ts. ts ++ bs) one.taken ∙ append_assoc h.book.taken (b ∷ []) bs;
      long = ap suc rest.long;
      old = λ c run.
          let differs : c ≢ b = λ same. run_some (slot_of h.book.slots c) run (ap (slot_of h.book.slots) same ∙ one.empty) in
          rest.old c (subst HasRun (sym (one.others c differs)) run) ∙ one.others c differs;
      fresh = fresh;
      new = new;
      distinct = distinct;
      many = rest.many ∙ one.many;
      stands = rest.stands;
      words = rest.words ∙ one.words;
    }
  where
    later : (c : ℕ) → slot_of k.book.slots c ≡ Empty → c ≢ b
    later c none same = run_some (slot_of k.book.slots b) (blocks_run n (slot_of k.book.slots b) one.new) (ap (slot_of k.book.slots) (sym same) ∙ none)

    fresh : (i : ℕ) → i < length (b ∷ bs) → slot_of h.book.slots (get_or (b ∷ bs) i 0) ≡ Empty
    fresh zero below = one.empty
    fresh (suc i) below =
        let none = rest.fresh i (omega arith) in
        sym (one.others (get_or bs i 0) (later (get_or bs i 0) none)) ∙ none

    new : (i : ℕ) → i < length (b ∷ bs) → HasBlocks (get_or (n ∷ ns) i 0) (slot_of g.book.slots (get_or (b ∷ bs) i 0))
    new zero below = subst (HasBlocks n) (sym (rest.old b (blocks_run n (slot_of k.book.slots b) one.new))) one.new
    new (suc i) below = rest.new i (omega arith)

    distinct : (i j : ℕ) → i < j → j < length (b ∷ bs) → get_or (b ∷ bs) j 0 ≢ get_or (b ∷ bs) i 0
    distinct i zero less below = absurd (omega arith)
    distinct zero (suc j) less below = later (get_or bs j 0) (rest.fresh j (omega arith))
    distinct (suc i) (suc j) less below = rest.distinct i j (omega arith) (omega arith)

pub record AreTakenSome (h g : Holding) (ns : List ℕ) : Type 0 where
  pub blocks : List ℕ
  pub are : AreTaken h g ns blocks

none_taken_yet : (h : Holding) → Stands h → AreTaken h h [] []
none_taken_yet h stands = record {
  taken = sym (append_none h.book.taken);
  long = refl;
  old = λ c run. refl;
  fresh = λ i below. absurd (omega arith);
  new = λ i below. absurd (omega arith);
  distinct = λ i j less below. absurd (omega arith);
  many = refl;
  stands = stands;
  words = refl;
}
  where
    append_none : (xs : List ℕ) → xs ++ [] ≡ xs
    append_none [] = refl
    append_none (x ∷ xs) = ap (λ ys. x ∷ ys) (append_none xs)

abbrev then_runs : Holding → ℕ → List ℕ → Option Holding → Result Holding OfferError
then_runs h n ns o = elim o [ None ↦ Err (errors.NoBlocks n (longest_run h.memory.states)) | Some more ↦ take_runs more ns ]

taken_first : (h g : Holding) (n : ℕ) (ns : List ℕ) (o : Option Holding) → Stands h → take_run h n ≡ o → ((k : Holding) → Stands k → take_runs k ns ≡ Ok g → AreTakenSome k g ns) → then_runs h n ns o ≡ Ok g → AreTakenSome h g (n ∷ ns)
taken_first h g n ns None stands is rest e = absurd (cc)
taken_first h g n ns (Some k) stands is rest e =
    let one = taken_some h k n (lowest_run h.memory.states n) stands refl is in
    let more = rest k one.at.stands e in
    record { blocks = one.first ∷ more.blocks; are = one_more h k g n one.first ns more.blocks one.at more.are }

pub runs_taken : (h g : Holding) (ns : List ℕ) → Stands h → take_runs h ns ≡ Ok g → AreTakenSome h g ns
runs_taken h g [] stands e = record { blocks = []; are = subst (λ (k : Holding). AreTaken h k [] []) (ok_same h g e) (none_taken_yet h stands) }
runs_taken h g (n ∷ ns) stands e = taken_first h g n ns (take_run h n) stands refl (λ k s f. runs_taken k g ns s f) e
