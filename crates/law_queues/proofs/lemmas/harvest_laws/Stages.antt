-- Nothing is noted as moved of new qTDs, and no more is told of them than a get, a put or a request asks for.
use Rattle.std.proofs.Common.{◌≡◌, ◌≢◌, ℕ, zero, suc, ◌+◌, ◌-◌, ◌*◌, ◌≤◌, ◌<◌, min, max, nat_eq, not, Bool, true, false, if◌then◌else◌, List, [], ◌∷◌, length, drop, map, get_or, set, ap, refl, sym, subst, ◌∙◌, arith}
use Rattle.std.specs.List.{range_with_len}
use Rattle.std.proofs.Math.Nat.{suc-mul}
use Rattle.std.proofs.lemmas.List.{get_or-set_same, length-set}
use Rattle.law_common.proofs.Lists.{next_of}
use Rattle.usb_base.specs.declared.packets.Way.{Way}
use Rattle.drv_table.specs.declared.content.QtdNote.{QtdNote}
use Rattle.drv_table.specs.declared.content.Stage.{Stage}
use Rattle.drv_table.specs.DriverContent.{no_note}
use Rattle.drv_table.specs.Words.{pieces, cut, request_length, request_stages, setup_stage, data_stage, status_stage, asks_in}
use Rattle.drv_table.specs.Harvests.{note_at}
use Rattle.drv_table.specs.Offers.{runs_of, note_for, note_stages}
use Rattle.law_driver.proofs.lemmas.run_owners.Chains.{notes_apart}
use Rattle.law_driver.specs.chained_transfers.Bulk.{stage_by}
use Rattle.law_driver.proofs.lemmas.chained_transfers.Ways.{stage_told}
use Rattle.law_driver_ring.specs.told_harvests.Held.{AreUnmoved, told_of}

-- the blocks of the qTDs are among the notes, and no two of them are one
pub record AreBlocks (notes : List QtdNote) (ss : List Stage) (b : ℕ) (qtds : List ℕ) : Type 0 where
  pub within : (i : ℕ) → i < length ss → get_or (b ∷ qtds) i 0 < length notes
  pub distinct : (i j : ℕ) → i < j → j < length ss → get_or (b ∷ qtds) j 0 ≢ get_or (b ∷ qtds) i 0

later_blocks : (notes : List QtdNote) (s : Stage) (ss : List Stage) (b : ℕ) (qtds : List ℕ) (n : QtdNote) → AreBlocks notes (s ∷ ss) b qtds → AreBlocks (set notes b n) ss (get_or qtds 0 0) (drop 1 qtds)
later_blocks notes s ss b qtds n k = record {
  within = λ i below. let l = length-set notes b n in let w = k.within (suc i) (omega (arith, below)) in let e = next_of qtds i in omega (arith, l, w, e);
  distinct = λ i j less below same. k.distinct (suc i) (suc j) (omega (arith, less)) (omega (arith, below)) (sym (next_of qtds j) ∙ same ∙ next_of qtds i);
}

first_note : (notes : List QtdNote) (s : Stage) (ss : List Stage) (b : ℕ) (qtds runs : List ℕ) → AreBlocks notes (s ∷ ss) b qtds → note_at (note_stages notes (s ∷ ss) b qtds runs) b ≡ note_for s (get_or qtds 0 0) runs
first_note notes s ss b qtds runs k =
    let q = get_or qtds 0 0 in
    notes_apart (set notes b (note_for s q runs)) ss q (drop 1 qtds) (drop (runs_of s) runs) b (λ i below same. k.distinct 0 (suc i) (omega arith) (omega (arith, below)) (sym (next_of qtds i) ∙ same))
    ∙ get_or-set_same notes b (note_for s q runs) no_note (k.within 0 (omega arith))

pub stages_unmoved : (notes : List QtdNote) (ss : List Stage) (b : ℕ) (qtds runs : List ℕ) → AreBlocks notes ss b qtds → AreUnmoved (note_at (note_stages notes ss b qtds runs)) b (length ss)
stages_unmoved notes [] b qtds runs k = tt
stages_unmoved notes (s ∷ ss) b qtds runs k =
    let q = get_or qtds 0 0 in
    let n = note_for s q runs in
    let rest = note_stages (set notes b n) ss q (drop 1 qtds) (drop (runs_of s) runs) in
    let here : note_at rest b ≡ n = first_note notes s ss b qtds runs k in (
      ap (λ (z : QtdNote). z.moved) here,
      subst (λ (a : ℕ). AreUnmoved (note_at rest) a (length ss)) (sym (ap (λ (z : QtdNote). z.next) here)) (stages_unmoved (set notes b n) ss q (drop 1 qtds) (drop (runs_of s) runs) (later_blocks notes s ss b qtds n k)),
    )

abbrev pub told_in_all : List Stage → ℕ
told_in_all [] = 0
told_in_all (s ∷ ss) = s.told + told_in_all ss

pub stages_told : (notes : List QtdNote) (ss : List Stage) (b : ℕ) (qtds runs : List ℕ) → AreBlocks notes ss b qtds → told_of (note_at (note_stages notes ss b qtds runs)) b (length ss) ≡ told_in_all ss
stages_told notes [] b qtds runs k = refl
stages_told notes (s ∷ ss) b qtds runs k =
    let q = get_or qtds 0 0 in
    let n = note_for s q runs in
    let rest = note_stages (set notes b n) ss q (drop 1 qtds) (drop (runs_of s) runs) in
    let here : note_at rest b ≡ n = first_note notes s ss b qtds runs k in
    let one : (note_at rest b).told ≡ s.told = ap (λ (z : QtdNote). z.told) here in
    let more : told_of (note_at rest) (note_at rest b).next (length ss) ≡ told_in_all ss =
    ap (λ (a : ℕ). told_of (note_at rest) a (length ss)) (ap (λ (z : QtdNote). z.next) here) ∙ stages_told (set notes b n) ss q (drop 1 qtds) (drop (runs_of s) runs) (later_blocks notes s ss b qtds n k) in
    omega (arith, one, more)

-- ---- a get or a put

-- what is left is cut, piece by piece
cut_less : (way : Way) (len by a n : ℕ) → told_in_all (map (stage_by way) (map (λ (k : ℕ). min by (len - k * by)) (range_with_len a n))) ≤ len - a * by
cut_less way len by a zero = omega arith
cut_less way len by a (suc n) =
    let rest = cut_less way len by (a + 1) n in
    let next : (a + 1) * by ≡ a * by + by = ap (λ (i : ℕ). i * by) (let e : a + 1 ≡ suc a = omega arith in e) ∙ suc-mul a by in
    let one = stage_told way (min by (len - a * by)) in
    omega (arith, rest, next, one)

pub cut_told : (way : Way) (len by : ℕ) → told_in_all (map (stage_by way) (cut len by)) ≤ len
cut_told way len by = let z = cut_less way len by 0 (max 1 (pieces len by)) in omega (arith, z)

-- ---- a request, whose SETUP and status tell no bytes

pub request_told : (setup : List ℕ) → told_in_all (request_stages setup) ≤ request_length setup
request_told setup = by_data (nat_eq (request_length setup) 0)
  where
    by_data : (b : Bool)
        → told_in_all (if b then setup_stage ∷ status_stage true ∷ [] else setup_stage ∷ data_stage (asks_in setup) (request_length setup) ∷ status_stage (not (asks_in setup)) ∷ []) ≤ request_length setup
    by_data true = omega arith
    by_data false = omega arith
