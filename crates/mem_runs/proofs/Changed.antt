-- The runs of a list of slots as one of them changes.
use Rattle.std.proofs.Common.{◌≡◌, ℕ, zero, suc, ◌+◌, ◌<◌, ◌≤◌, List, [], ◌∷◌, ◌++◌, length, set, arith, ap, ⊎_elim, length-append}
use Rattle.std.proofs.lemmas.Bool.{cases_lt}
use Rattle.std.proofs.lemmas.List.{get_or_past}
use Rattle.word_mem.specs.Memory.{Mem}
use Rattle.word_mem.specs.Owners.{holders, IsHeldBy}
use Rattle.word_mem.proofs.Holders.{holders-append, held_same}
use Rattle.mem_runs.specs.Book.{kept_of, lent_of, kept_in, lent_in, slot_of}
use Rattle.mem_runs.specs.declared.slots.Slot.{Slot}
use Rattle.mem_runs.specs.declared.slots.Slot.TheVariants.{Empty}

-- each run of the slots has one holder, so a changed slot adds its run and takes away the one that stood there
kept_set : (slots : List Slot) (b : ℕ) (s : Slot) (x : ℕ) → b < length slots → holders (kept_in (set slots b s)) x + holders (kept_of (slot_of slots b)) x ≡ holders (kept_in slots) x + holders (kept_of s) x
kept_set [] b s x below = absurd (omega arith)
kept_set (t ∷ ts) zero s x below =
    omega (arith, holders-append (kept_of s) (kept_in ts) x, holders-append (kept_of t) (kept_in ts) x)
kept_set (t ∷ ts) (suc b) s x below =
    omega (arith, kept_set ts b s x (omega arith), holders-append (kept_of t) (kept_in (set ts b s)) x, holders-append (kept_of t) (kept_in ts) x)

lent_set : (slots : List Slot) (b : ℕ) (s : Slot) (x : ℕ) → b < length slots → holders (lent_in (set slots b s)) x + holders (lent_of (slot_of slots b)) x ≡ holders (lent_in slots) x + holders (lent_of s) x
lent_set [] b s x below = absurd (omega arith)
lent_set (t ∷ ts) zero s x below =
    omega (arith, holders-append (lent_of s) (lent_in ts) x, holders-append (lent_of t) (lent_in ts) x)
lent_set (t ∷ ts) (suc b) s x below =
    omega (arith, lent_set ts b s x (omega arith), holders-append (lent_of t) (lent_in (set ts b s)) x, holders-append (lent_of t) (lent_in ts) x)

-- how many runs are kept
pub count_set : (slots : List Slot) (b : ℕ) (s : Slot) → b < length slots → length (kept_in (set slots b s)) + length (kept_of (slot_of slots b)) ≡ length (kept_in slots) + length (kept_of s)
count_set [] b s below = absurd (omega arith)
count_set (t ∷ ts) zero s below =
    omega (arith, length-append (kept_of s) (kept_in ts), length-append (kept_of t) (kept_in ts))
count_set (t ∷ ts) (suc b) s below =
    omega (arith, count_set ts b s (omega arith), length-append (kept_of t) (kept_in (set ts b s)), length-append (kept_of t) (kept_in ts))

-- a slot that isn't empty is one of the slots
pub slot_within : (slots : List Slot) (b : ℕ) → (slot_of slots b ≡ Empty → ⊥) → b < length slots
slot_within slots b some =
    ⊎_elim (λ (below : b < length slots). below) (λ (past : length slots ≤ b). absurd (some (get_or_past slots b Empty past))) (cases_lt b (length slots))

-- memory as one slot and the others tell it
pub held_get : (m : Mem) (slots : List Slot) (b : ℕ) (s : Slot) → b < length slots → slot_of slots b ≡ s → IsHeldBy m (kept_in slots) (lent_in slots) → IsHeldBy m (kept_of s ++ kept_in (set slots b Empty)) (lent_of s ++ lent_in (set slots b Empty))
held_get m slots b s below there held =
    held_same m (kept_in slots) (lent_in slots) (kept_of s ++ kept_in (set slots b Empty)) (lent_of s ++ lent_in (set slots b Empty))
    (λ x. omega (arith, kept_set slots b Empty x below, ap (λ t. holders (kept_of t) x) there, holders-append (kept_of s) (kept_in (set slots b Empty)) x))
    (λ x. omega (arith, lent_set slots b Empty x below, ap (λ t. holders (lent_of t) x) there, holders-append (lent_of s) (lent_in (set slots b Empty)) x))
    held

pub held_put : (m : Mem) (slots : List Slot) (b : ℕ) (s : Slot) → b < length slots → IsHeldBy m (kept_of s ++ kept_in (set slots b Empty)) (lent_of s ++ lent_in (set slots b Empty)) → IsHeldBy m (kept_in (set slots b s)) (lent_in (set slots b s))
held_put m slots b s below held =
    held_same m (kept_of s ++ kept_in (set slots b Empty)) (lent_of s ++ lent_in (set slots b Empty)) (kept_in (set slots b s)) (lent_in (set slots b s))
    (λ x. omega (arith, kept_set slots b Empty x below, kept_set slots b s x below, holders-append (kept_of s) (kept_in (set slots b Empty)) x))
    (λ x. omega (arith, lent_set slots b Empty x below, lent_set slots b s x below, holders-append (lent_of s) (lent_in (set slots b Empty)) x))
    held

-- a slot keeps one run at most
kept_one : (s : Slot) → length (kept_of s) ≤ 1
kept_one Empty = omega arith
kept_one _ = omega arith

pub kept_few : (slots : List Slot) → length (kept_in slots) ≤ length slots
kept_few [] = omega arith
kept_few (s ∷ ss) = omega (arith, kept_few ss, kept_one s, length-append (kept_of s) (kept_in ss))
