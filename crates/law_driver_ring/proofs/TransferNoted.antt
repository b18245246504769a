-- The notes of a new transfer tell its chain.
use Rattle.std.proofs.Common.{◌≡◌, ◌≢◌, ℕ, zero, suc, ◌<◌, ◌≤◌, List, [], ◌∷◌, ◌++◌, length, take, drop, set, get_or, replicate, ap, refl, sym, subst, ◌∙◌, arith, length-append, length-drop}
use Rattle.std.proofs.lemmas.List.{get_or-set_same, length-set, take-append-drop}
use Rattle.std.proofs.lemmas.List.Concat.{flat_map-cons}
use Rattle.law_common.proofs.Lists.{next_of, filled, shorter}
use Rattle.mem_runs.specs.declared.slots.Slot.{Slot}
use Rattle.drv_table.specs.declared.content.QtdNote.{QtdNote}
use Rattle.drv_table.specs.declared.content.Stage.{Stage}
use Rattle.drv_table.specs.DriverContent.{no_note}
use Rattle.drv_table.specs.Words.{buffer_needs}
use Rattle.drv_table.specs.Harvests.{note_at}
use Rattle.drv_table.specs.Offers.{note_for, runs_of, note_stages}
use Rattle.law_driver.specs.run_owners.Accepts.{AreShort}
use Rattle.law_driver.proofs.lemmas.run_owners.Chains.{notes_apart, few_runs, buffers_of}
use Rattle.law_driver_ring.specs.Written.{AreRuns, next_blocks, buffer_blocks, last_block, IsStageNoted, AreNoted}
use Rattle.law_driver_ring.proofs.Paged.{runs_left, runs_right, runs_many}

-- ---- lists told by a first and the rest

first_and_rest : (qtds : List ℕ) → 1 ≤ length qtds → get_or qtds 0 0 ∷ drop 1 qtds ≡ qtds
first_and_rest [] some = absurd (omega (arith, some))
first_and_rest (q ∷ qtds) some = refl

-- what the blocks of a chain are to the slots: each is another, and lies among the notes
pub record AreChainBlocks (notes : List QtdNote) (ss : List Stage) (b : ℕ) (qtds : List ℕ) : Type 0 where
  pub many : length qtds ≡ length ss
  pub within : (i : ℕ) → i < length ss → get_or (b ∷ qtds) i 0 < length notes
  pub distinct : (i j : ℕ) → i < j → j < length ss → get_or (b ∷ qtds) j 0 ≢ get_or (b ∷ qtds) i 0

later_blocks : (notes : List QtdNote) (s : Stage) (ss : List Stage) (b : ℕ) (qtds : List ℕ) (n : QtdNote) → AreChainBlocks notes (s ∷ ss) b qtds → AreChainBlocks (set notes b n) ss (get_or qtds 0 0) (drop 1 qtds)
later_blocks notes s ss b qtds n k = record {
  many = let l = length-drop 1 qtds in let m = k.many in omega (arith, l, m);
  within = λ i below. let l = length-set notes b n in let w = k.within (suc i) (omega (arith, below)) in let e = next_of qtds i in omega (arith, l, w, e);
  distinct = λ i j less below same. k.distinct (suc i) (suc j) (omega (arith, less)) (omega (arith, below)) (sym (next_of qtds j) ∙ same ∙ next_of qtds i);
}

-- the note of the first qTD
pub first_note : (notes : List QtdNote) (s : Stage) (ss : List Stage) (b : ℕ) (qtds runs : List ℕ) → AreChainBlocks notes (s ∷ ss) b qtds → note_at (note_stages notes (s ∷ ss) b qtds runs) b ≡ note_for s (get_or qtds 0 0) runs
first_note notes s ss b qtds runs k =
    let q = get_or qtds 0 0 in
    notes_apart (set notes b (note_for s q runs)) ss q (drop 1 qtds) (drop (runs_of s) runs) b (λ i below same. k.distinct 0 (suc i) (omega arith) (omega (arith, below)) (sym (next_of qtds i) ∙ same))
    ∙ get_or-set_same notes b (note_for s q runs) no_note (k.within 0 (omega arith))

-- ---- the blocks

pub next_blocks_are : (notes : List QtdNote) (ss : List Stage) (b : ℕ) (qtds runs : List ℕ) → AreChainBlocks notes ss b qtds → next_blocks (note_stages notes ss b qtds runs) ss b ≡ qtds
next_blocks_are notes [] b [] runs k = refl
next_blocks_are notes [] b (q ∷ qtds) runs k = absurd (let m = k.many in omega (arith, m))
next_blocks_are notes (s ∷ ss) b qtds runs k =
    let q = get_or qtds 0 0 in
    let n = note_for s q runs in
    let rest = note_stages (set notes b n) ss q (drop 1 qtds) (drop (runs_of s) runs) in
    ap (λ (m : QtdNote). m.next ∷ next_blocks rest ss m.next) (first_note notes s ss b qtds runs k)
    ∙ ap (λ (cs : List ℕ). q ∷ cs) (next_blocks_are (set notes b n) ss q (drop 1 qtds) (drop (runs_of s) runs) (later_blocks notes s ss b qtds n k))
    ∙ first_and_rest qtds (let m = k.many in omega (arith, m))

pub last_block_is : (notes : List QtdNote) (ss : List Stage) (b : ℕ) (qtds runs : List ℕ) → AreChainBlocks notes ss b qtds → last_block (note_stages notes ss b qtds runs) ss b ≡ get_or (b ∷ qtds) (length ss) 0
last_block_is notes [] b qtds runs k = refl
last_block_is notes (s ∷ ss) b qtds runs k =
    let q = get_or qtds 0 0 in
    let n = note_for s q runs in
    let rest = note_stages (set notes b n) ss q (drop 1 qtds) (drop (runs_of s) runs) in
    ap (λ (m : QtdNote). last_block rest ss m.next) (first_note notes s ss b qtds runs k)
    ∙ last_block_is (set notes b n) ss q (drop 1 qtds) (drop (runs_of s) runs) (later_blocks notes s ss b qtds n k)
    ∙ next_of qtds (length ss)

-- ---- the runs of the buffers

zeros : (n i : ℕ) → get_or (replicate {A = ℕ} n 0) i 0 ≡ 0
zeros zero i = refl
zeros (suc n) zero = refl
zeros (suc n) (suc i) = zeros n i

past_zeros : (m n : ℕ) (xs : List ℕ) (i : ℕ) → length xs ≤ i → get_or (take m (xs ++ replicate {A = ℕ} n 0)) i 0 ≡ 0
past_zeros zero n xs i past = refl
past_zeros (suc m) n [] i past = few_zeros (suc m) n i
  where
    few_zeros : (m n i : ℕ) → get_or (take m (replicate {A = ℕ} n 0)) i 0 ≡ 0
    few_zeros zero n i = refl
    few_zeros (suc m) zero i = refl
    few_zeros (suc m) (suc n) zero = refl
    few_zeros (suc m) (suc n) (suc i) = few_zeros m n i
past_zeros (suc m) n (x ∷ xs) zero past = absurd (omega (arith, past))
past_zeros (suc m) n (x ∷ xs) (suc i) past = past_zeros m n xs i (omega (arith, past))

-- the runs of the further buffers
rest_many : (s : Stage) (ss : List Stage) (runs : List ℕ) → length runs ≡ length (buffers_of (s ∷ ss)) → (length (buffer_needs s.long) ≤ length runs) × (length (drop (runs_of s) runs) ≡ length (buffers_of ss))
rest_many s ss runs many =
    let all = ap length (flat_map-cons (λ (r : Stage). buffer_needs r.long) s ss) ∙ length-append (buffer_needs s.long) (buffers_of ss) in
    let rest = length-drop (runs_of s) runs in
    (omega (arith, many, all), omega (arith, many, all, rest))

pub buffer_blocks_are : (notes : List QtdNote) (ss : List Stage) (b : ℕ) (qtds runs : List ℕ) → AreChainBlocks notes ss b qtds → AreShort ss → length runs ≡ length (buffers_of ss) → buffer_blocks (note_stages notes ss b qtds runs) ss b ≡ runs
buffer_blocks_are notes [] b qtds [] k short many = refl
buffer_blocks_are notes [] b qtds (r ∷ runs) k short many = absurd (omega (arith, many))
buffer_blocks_are notes (s ∷ ss) b qtds runs k short many =
    let q = get_or qtds 0 0 in
    let n = note_for s q runs in
    let r = runs_of s in
    let rest = note_stages (set notes b n) ss q (drop 1 qtds) (drop r runs) in
    let both = rest_many s ss runs many in
    ap (λ (m : QtdNote). take m.runs m.buffer ++ buffer_blocks rest ss m.next) (first_note notes s ss b qtds runs k)
    ∙ ap (λ (cs : List ℕ). cs ++ buffer_blocks rest ss q) (filled r 5 runs (replicate 5 0) (few_runs 5 s.long short.0 (omega arith)) both.0)
    ∙ ap (λ (cs : List ℕ). take r runs ++ cs) (buffer_blocks_are (set notes b n) ss q (drop 1 qtds) (drop r runs) (later_blocks notes s ss b qtds n k) short.1 both.1)
    ∙ take-append-drop r runs

pub stages_noted : (slot : ℕ → Slot) (notes : List QtdNote) (ss : List Stage) (b : ℕ) (qtds runs : List ℕ) → AreChainBlocks notes ss b qtds → AreShort ss → AreRuns slot (buffers_of ss) runs → AreNoted slot (note_stages notes ss b qtds runs) ss b
stages_noted slot notes [] b qtds runs k short are = tt
stages_noted slot notes (s ∷ ss) b qtds runs k short are =
    let q = get_or qtds 0 0 in
    let n = note_for s q runs in
    let r = runs_of s in
    let rest = note_stages (set notes b n) ss q (drop 1 qtds) (drop r runs) in
    let here = first_note notes s ss b qtds runs k in
    let split : AreRuns slot (buffer_needs s.long ++ buffers_of ss) runs = subst (λ (ns : List ℕ). AreRuns slot ns runs) (flat_map-cons (λ (r : Stage). buffer_needs r.long) s ss) are in
    let both = rest_many s ss runs (runs_many slot (buffers_of (s ∷ ss)) runs are) in
    let mine : IsStageNoted slot n s = record {
      runs = subst (AreRuns slot (buffer_needs s.long)) (sym (filled r 5 runs (replicate 5 0) (few_runs 5 s.long short.0 (omega arith)) both.0)) (runs_left slot (buffer_needs s.long) (buffers_of ss) runs split);
      told = refl;
      rest = λ i from. past_zeros 5 5 (take r runs) i (let e = shorter r runs in omega (arith, e, from));
    } in (
      subst (λ (m : QtdNote). IsStageNoted slot m s) (sym here) mine,
      subst (λ (m : QtdNote). AreNoted slot rest ss m.next) (sym here)
          (stages_noted slot (set notes b n) ss q (drop 1 qtds) (drop r runs) (later_blocks notes s ss b qtds n k) short.1 (runs_right slot (buffer_needs s.long) (buffers_of ss) runs split)),
    )
