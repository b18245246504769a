-- What a command takes isn't lent yet, and what was lent stays so.
use Rattle.std.proofs.Common.{◌≡◌, ◌≢◌, ℕ, zero, suc, ◌<◌, ◌≤◌, List, [], ◌∷◌, length, set, get_or, Option, Some, None, option_map, Result, Ok, Err, ap, refl, sym, subst, ◌∙◌, ⊎_elim, arith}
use Rattle.std.proofs.lemmas.Bool.{cases_eq, cases_lt}
use Rattle.std.proofs.lemmas.List.{get_or-set_same, get_or-set_other, set_past}
use Rattle.law_driver.proofs.Common.{ok_same}
use Rattle.law_driver_ring.proofs.Common.{lent_has}
use Rattle.usb_base.specs.declared.reports.OfferError.{OfferError}
use Rattle.usb_base.specs.declared.reports.OfferError.TheVariants as errors
use Rattle.word_mem.specs.Runs.{Run}
use Rattle.word_mem.specs.Free.{longest_run, lowest_run}
use Rattle.mem_runs.specs.declared.slots.Slot.{Slot}
use Rattle.mem_runs.specs.declared.slots.Slot.TheVariants.{Empty, Keeps}
use Rattle.mem_runs.specs.Book.{Holding, slot_of, with_run}
use Rattle.drv_table.specs.Accepting.{take_runs}
use Rattle.law_driver.proofs.lemmas.run_owners.Taking.{AreTaken}
use Rattle.law_driver_ring.specs.Inventory.{IsLent}

empty_not_lent : (s : Slot) → s ≡ Empty → IsLent s → ⊥
empty_not_lent s is lent = subst IsLent is lent

keeps_not_lent : (s : Slot) (r : Run) → s ≡ Keeps r → IsLent s → ⊥
keeps_not_lent s r is lent = subst IsLent is lent

-- past the last slot there is no run
past_empty : (slots : List Slot) (b : ℕ) → length slots ≤ b → slot_of slots b ≡ Empty
past_empty [] b past = refl
past_empty (s ∷ ss) zero past = absurd (omega (arith, past))
past_empty (s ∷ ss) (suc b) past = past_empty ss b (omega (arith, past))

-- where a run is kept from now on nothing is lent
not_kept : (slots : List Slot) (b : ℕ) (r : Run) → IsLent (slot_of (set slots b (Keeps r)) b) → ⊥
not_kept slots b r lent =
    ⊎_elim (λ (below : b < length slots). keeps_not_lent (slot_of (set slots b (Keeps r)) b) r (get_or-set_same slots b (Keeps r) Empty below) lent)
    (λ (past : length slots ≤ b). empty_not_lent (slot_of slots b) (past_empty slots b past) (subst (λ (ss : List Slot). IsLent (slot_of ss b)) (set_past slots b (Keeps r) past) lent))
    (cases_lt b (length slots))

run_lent : (h : Holding) (r : Run) (c : ℕ) → IsLent (slot_of (with_run h r).book.slots c) → slot_of (with_run h r).book.slots c ≡ slot_of h.book.slots c
run_lent h r c lent =
    ⊎_elim (λ (same : c ≡ r.first). absurd (not_kept h.book.slots r.first r (subst (λ (i : ℕ). IsLent (slot_of (set h.book.slots r.first (Keeps r)) i)) same lent)))
    (λ (differs : c ≢ r.first). get_or-set_other h.book.slots r.first c (Keeps r) Empty differs) (cases_eq c r.first)

-- the runs after the first
abbrev then_runs : Holding → ℕ → List ℕ → Option Holding → Result Holding OfferError
then_runs h n ns o = elim o [ None ↦ Err (errors.NoBlocks n (longest_run h.memory.states)) | Some more ↦ take_runs more ns ]

first_lent : (h g : Holding) (n : ℕ) (ns : List ℕ) (o : Option Run) (c : ℕ) → ((k : Holding) → take_runs k ns ≡ Ok g → IsLent (slot_of g.book.slots c) → slot_of g.book.slots c ≡ slot_of k.book.slots c) → then_runs h n ns (option_map (with_run h) o) ≡ Ok g → IsLent (slot_of g.book.slots c) → slot_of g.book.slots c ≡ slot_of h.book.slots c
first_lent h g n ns None c rest e lent = absurd (cc)
first_lent h g n ns (Some r) c rest e lent =
    let later = rest (with_run h r) e lent in later ∙ run_lent h r c (subst IsLent later lent)

pub lent_before : (ns : List ℕ) (h g : Holding) (c : ℕ) → take_runs h ns ≡ Ok g → IsLent (slot_of g.book.slots c) → slot_of g.book.slots c ≡ slot_of h.book.slots c
lent_before [] h g c e lent = ap (λ (k : Holding). slot_of k.book.slots c) (sym (ok_same h g e))
lent_before (n ∷ ns) h g c e lent = first_lent h g n ns (lowest_run h.memory.states n) c (λ k f. lent_before ns k g c f) e lent

-- ---- the slots of a command

-- nothing is lent that wasn't, and what was lent is as it was
pub record TakesOn (slot now : ℕ → Slot) : Type 0 where
  pub before : (c : ℕ) → IsLent (now c) → now c ≡ slot c
  pub after : (c : ℕ) → IsLent (slot c) → now c ≡ slot c

pub takes_on : (h g : Holding) (ns bs : List ℕ) → take_runs h ns ≡ Ok g → AreTaken h g ns bs → TakesOn (slot_of h.book.slots) (slot_of g.book.slots)
takes_on h g ns bs e taken = record {
  before = λ c lent. lent_before ns h g c e lent;
  after = λ c lent. taken.old c (lent_has (slot_of h.book.slots c) lent);
}

-- a new run isn't lent
pub new_not_lent : {h g : Holding} {ns bs : List ℕ} (i : ℕ) → take_runs h ns ≡ Ok g → AreTaken h g ns bs → i < length bs → IsLent (slot_of g.book.slots (get_or bs i 0)) → ⊥
new_not_lent {h = h} {g = g} {ns = ns} {bs = bs} i e taken below lent =
    let b = get_or bs i 0 in
    empty_not_lent (slot_of h.book.slots b) (taken.fresh i below) (subst IsLent (lent_before ns h g b e lent) lent)
