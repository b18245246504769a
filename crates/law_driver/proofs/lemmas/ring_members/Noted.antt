-- A block that is none of the new ones is none of a new transfer's chain.
use Rattle.std.proofs.Common.{◌≡◌, ◌≢◌, ℕ, zero, suc, ◌<◌, List, [], ◌∷◌, ◌++◌, length, take, drop, replicate, get_or, set, sym, subst, ◌∙◌, arith}
use Rattle.std.specs.List.{AllByRecursion}
use Rattle.std.proofs.lemmas.List.{get_or-set_same, length-set}
use Rattle.law_common.proofs.Lists.{shift}
use Rattle.drv_table.specs.declared.content.QtdNote.{QtdNote}
use Rattle.drv_table.specs.declared.content.Stage.{Stage}
use Rattle.drv_table.specs.DriverContent.{no_note}
use Rattle.drv_table.specs.Harvests.{note_at}
use Rattle.drv_table.specs.Offers.{runs_of, note_for, note_stages}
use Rattle.law_driver.proofs.lemmas.run_owners.Chains.{notes_apart, dropped_all}
use Rattle.law_driver.proofs.lemmas.ring_members.Stores.{AreNotAt, AreBuffersNotAt}

-- a list of other blocks, filled up with zeros
all_apart : (c : ℕ) (xs : List ℕ) (j : ℕ) → c ≢ 0 → AllByRecursion (λ x. c ≢ x) xs → c ≢ get_or xs j 0
all_apart c [] j none all = none
all_apart c (x ∷ xs) zero none all = all.0
all_apart c (x ∷ xs) (suc j) none all = all_apart c xs j none all.1

take_apart : (c n : ℕ) (xs : List ℕ) → AllByRecursion (λ x. c ≢ x) xs → AllByRecursion (λ x. c ≢ x) (take n xs)
take_apart c zero xs all = tt
take_apart c (suc n) [] all = tt
take_apart c (suc n) (x ∷ xs) all = (all.0, take_apart c n xs all.1)

both_apart : (c : ℕ) (xs ys : List ℕ) → AllByRecursion (λ x. c ≢ x) xs → AllByRecursion (λ x. c ≢ x) ys → AllByRecursion (λ x. c ≢ x) (xs ++ ys)
both_apart c [] ys one two = two
both_apart c (x ∷ xs) ys one two = (one.0, both_apart c xs ys one.1 two)

buffer_apart : (c : ℕ) (s : Stage) (q : ℕ) (runs : List ℕ) (j : ℕ) → c ≢ 0 → AllByRecursion (λ x. c ≢ x) runs → c ≢ get_or (note_for s q runs).buffer j 0
buffer_apart c s q runs j none all =
    all_apart c (take 5 (take (runs_of s) runs ++ replicate 5 0)) j none
    (take_apart c 5 (take (runs_of s) runs ++ replicate 5 0) (both_apart c (take (runs_of s) runs) (replicate 5 0) (take_apart c (runs_of s) runs all) (none, (none, (none, (none, (none, tt)))))))

pub noted_apart : (c : ℕ) (notes : List QtdNote) (ss : List Stage) (b : ℕ) (qtds runs : List ℕ) → c ≢ 0 → ((i : ℕ) → i < length ss → get_or (b ∷ qtds) i 0 ≢ c) → ((i : ℕ) → i < length ss → get_or (b ∷ qtds) i 0 < length notes) → ((i j : ℕ) → i < j → j < length ss → get_or (b ∷ qtds) j 0 ≢ get_or (b ∷ qtds) i 0) → AllByRecursion (λ x. c ≢ x) runs → AreNotAt (note_stages notes ss b qtds runs) c b (length ss) × AreBuffersNotAt (note_stages notes ss b qtds runs) c b (length ss)
noted_apart c notes [] b qtds runs none apart within distinct all = (tt, tt)
noted_apart c notes (s ∷ ss) b qtds runs none apart within distinct all =
    let q = get_or qtds 0 0 in
    let one = set notes b (note_for s q runs) in
    let rest = note_stages one ss q (drop 1 qtds) (drop (runs_of s) runs) in
    let here : note_at rest b ≡ note_for s q runs =
    notes_apart one ss q (drop 1 qtds) (drop (runs_of s) runs) b (λ i below same. distinct 0 (suc i) (omega arith) (omega arith) (sym (shift b qtds i) ∙ same))
    ∙ get_or-set_same notes b (note_for s q runs) no_note (within 0 (omega arith)) in
    let more = noted_apart c one ss q (drop 1 qtds) (drop (runs_of s) runs) none
    (λ i below same. apart (suc i) (omega arith) (sym (shift b qtds i) ∙ same))
    (λ i below. let n = length-set notes b (note_for s q runs) in let w = within (suc i) (omega arith) in let e = shift b qtds i in omega (arith, n, w, e))
    (λ i j less below same. distinct (suc i) (suc j) (omega arith) (omega arith) (sym (shift b qtds j) ∙ same ∙ shift b qtds i))
    (dropped_all (λ x. c ≢ x) (runs_of s) runs all) in (
      (λ same. apart 0 (omega arith) (sym same), subst (λ (n : QtdNote). AreNotAt rest c n.next (length ss)) (sym here) more.0),
      (subst (λ (n : QtdNote). (j : ℕ) → c ≢ get_or n.buffer j 0) (sym here) (λ j. buffer_apart c s q runs j none all), subst (λ (n : QtdNote). AreBuffersNotAt rest c n.next (length ss)) (sym here) more.1),
    )
