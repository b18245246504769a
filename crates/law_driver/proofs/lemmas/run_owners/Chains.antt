-- The chain of the qTDs of a new transfer, as its notes tell it; and that no other chain's notes change.
use Rattle.std.proofs.Common.{◌≡◌, ◌≢◌, ◌*◌, ℕ, zero, suc, ◌<◌, ◌≤◌, true, false, nat_le, cond, List, [], ◌∷◌, ◌++◌, length, take, drop, replicate, set, get_or, ap, sym, subst, ◌∙◌, ⊎_elim, refl, arith, length-append, length-drop}
use Rattle.std.specs.List.{AllByRecursion, flat_map}
use Rattle.std.proofs.lemmas.Bool.{cases_Bool}
use Rattle.std.proofs.lemmas.List.{get_or-set_same, get_or-set_other, length-set, length-replicate}
use Rattle.law_common.proofs.Lists.{shift}
use Rattle.drv_table.specs.declared.content.QtdNote.{QtdNote}
use Rattle.drv_table.specs.declared.content.Stage.{Stage}
use Rattle.drv_table.specs.DriverContent.{no_note}
use Rattle.drv_table.specs.Words.{pieces, buffer_needs}
use Rattle.drv_table.specs.Harvests.{note_at}
use Rattle.drv_table.specs.Offers.{runs_of, note_for, note_stages}
use Rattle.mem_runs.specs.declared.slots.Slot.{Slot}
use Rattle.law_driver.specs.run_owners.Accepts.{AreShort}
use Rattle.claims_driver.specs.Owners.{Owner, Element, Buffer, IsPlaced, note_in, ArePieces}

-- ---- the notes of other blocks stay

pub notes_apart : (notes : List QtdNote) (ss : List Stage) (b : ℕ) (qtds runs : List ℕ) (c : ℕ) → ((i : ℕ) → i < length ss → get_or (b ∷ qtds) i 0 ≢ c) → note_at (note_stages notes ss b qtds runs) c ≡ note_at notes c
notes_apart notes [] b qtds runs c apart = refl
notes_apart notes (s ∷ ss) b qtds runs c apart =
    notes_apart (set notes b (note_for s (get_or qtds 0 0) runs)) ss (get_or qtds 0 0) (drop 1 qtds) (drop (runs_of s) runs) c
    (λ i below same. apart (suc i) (omega arith) (sym (shift b qtds i) ∙ same))
    ∙ get_or-set_other notes b c (note_for s (get_or qtds 0 0) runs) no_note (λ same. apart 0 (omega arith) (sym same))

pub notes_many : (notes : List QtdNote) (ss : List Stage) (b : ℕ) (qtds runs : List ℕ) → length (note_stages notes ss b qtds runs) ≡ length notes
notes_many notes [] b qtds runs = refl
notes_many notes (s ∷ ss) b qtds runs =
    notes_many (set notes b (note_for s (get_or qtds 0 0) runs)) ss (get_or qtds 0 0) (drop 1 qtds) (drop (runs_of s) runs)
    ∙ length-set notes b (note_for s (get_or qtds 0 0) runs)

-- ---- the runs of a buffer

pub few_runs : (k n : ℕ) → n ≤ 4096 * k → 1 ≤ k → length (buffer_needs n) ≤ k
few_runs k zero few some = omega arith
few_runs k (suc n) few some =
    ⊎_elim
    (λ (short : nat_le (suc n) 4096 ≡ true). let e = ap (λ b. length (cond b (pieces (suc n) 32 ∷ []) (replicate (pieces (suc n) 4096) 128))) short in omega (arith, e, some))
    (λ (long : nat_le (suc n) 4096 ≡ false).
    let e = ap (λ b. length (cond b (pieces (suc n) 32 ∷ []) (replicate (pieces (suc n) 4096) 128))) long ∙ length-replicate (pieces (suc n) 4096) 128 in
    omega (arith, e, few))
    (cases_Bool (nat_le (suc n) 4096))

pub dropped_all : (P : ℕ → Type 0) (n : ℕ) (xs : List ℕ) → AllByRecursion P xs → AllByRecursion P (drop n xs)
dropped_all P zero xs all = all
dropped_all P (suc n) [] all = tt
dropped_all P (suc n) (x ∷ xs) all = dropped_all P n xs all.1

-- what was filled up with zeros is cut again
filled_up : (P : ℕ → Type 0) (k m : ℕ) (xs zs : List ℕ) → k ≤ m → k ≤ length xs → AllByRecursion P xs → AllByRecursion P (take k (take m (take k xs ++ zs)))
filled_up P zero m xs zs few long all = tt
filled_up P (suc k) zero xs zs few long all = absurd (omega arith)
filled_up P (suc k) (suc m) [] zs few long all = absurd (omega arith)
filled_up P (suc k) (suc m) (x ∷ xs) zs few long all = (all.0, filled_up P k m xs zs (omega arith) (omega arith) all.1)

-- .. where what is told is told by place
pub filled_at : (P : ℕ → Type 0) (k m : ℕ) (xs zs : List ℕ) → k ≤ m → k ≤ length xs → ((i : ℕ) → i < k → P (get_or xs i 0)) → AllByRecursion P (take k (take m (take k xs ++ zs)))
filled_at P zero m xs zs few long all = tt
filled_at P (suc k) zero xs zs few long all = absurd (omega arith)
filled_at P (suc k) (suc m) [] zs few long all = absurd (omega arith)
filled_at P (suc k) (suc m) (x ∷ xs) zs few long all = (all 0 (omega arith), filled_at P k m xs zs (omega arith) (omega arith) (λ i below. all (suc i) (omega arith)))

-- ---- the chain

abbrev pub buffers_of : List Stage → List ℕ
buffers_of ss = flat_map (λ s. buffer_needs s.long) ss

pub pieces_noted : (slot : ℕ → Slot) (owner : ℕ → Owner) (t : ℕ) (notes : List QtdNote) (ss : List Stage) (b : ℕ) (qtds runs : List ℕ) → AreShort ss → ((i : ℕ) → i < length ss → IsPlaced slot owner (get_or (b ∷ qtds) i 0) (Element t)) → ((i : ℕ) → i < length ss → get_or (b ∷ qtds) i 0 < length notes) → ((i j : ℕ) → i < j → j < length ss → get_or (b ∷ qtds) j 0 ≢ get_or (b ∷ qtds) i 0) → length (buffers_of ss) ≤ length runs → AllByRecursion (λ c. IsPlaced slot owner c (Buffer t)) runs → ArePieces slot owner (note_in (note_stages notes ss b qtds runs)) t b (length ss)
pieces_noted slot owner t notes [] b qtds runs short elements within distinct long buffers = tt
pieces_noted slot owner t notes (s ∷ ss) b qtds runs short elements within distinct long buffers =
    let q = get_or qtds 0 0 in
    let one = set notes b (note_for s q runs) in
    let rest = note_stages one ss q (drop 1 qtds) (drop (runs_of s) runs) in
    let here : note_at rest b ≡ note_for s q runs =
    notes_apart one ss q (drop 1 qtds) (drop (runs_of s) runs) b (λ i below same. distinct 0 (suc i) (omega arith) (omega arith) (sym (shift b qtds i) ∙ same))
    ∙ get_or-set_same notes b (note_for s q runs) no_note (within 0 (omega arith)) in
    let many = length-append (buffer_needs s.long) (buffers_of ss) in (
      record {
        element = elements 0 (omega arith);
        buffers = subst (λ (n : QtdNote). AllByRecursion (λ c. IsPlaced slot owner c (Buffer t)) (take n.runs n.buffer)) (sym here)
            (filled_up (λ c. IsPlaced slot owner c (Buffer t)) (runs_of s) 5 runs (replicate 5 0) (few_runs 5 s.long short.0 (omega arith)) (omega (arith, many, long)) buffers);
      },
      subst (λ (n : QtdNote). ArePieces slot owner (note_in rest) t n.next (length ss)) (sym here)
          (pieces_noted slot owner t one ss q (drop 1 qtds) (drop (runs_of s) runs) short.1
          (λ i below. subst (λ c. IsPlaced slot owner c (Element t)) (sym (shift b qtds i)) (elements (suc i) (omega arith)))
          (λ i below. let n = length-set notes b (note_for s q runs) in let w = within (suc i) (omega arith) in let e = shift b qtds i in omega (arith, n, w, e))
          (λ i j less below same. distinct (suc i) (suc j) (omega arith) (omega arith) (sym (shift b qtds j) ∙ same ∙ shift b qtds i))
          (omega (arith, length-drop (runs_of s) runs, many, long))
          (dropped_all (λ c. IsPlaced slot owner c (Buffer t)) (runs_of s) runs buffers)),
    )
