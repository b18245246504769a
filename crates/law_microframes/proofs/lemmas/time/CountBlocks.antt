-- Blocks of memory that differ are no more than memory has.
use Rattle.std.proofs.Common.{◌≡◌, ◌≢◌, ⊎_elim, ℕ, suc, ◌+◌, ◌*◌, ◌/◌, ◌%◌, ◌<◌, ◌≤◌, true, false, List, [], ◌∷◌, length, refl, ap, subst, arith}
use Rattle.std.specs.Prelude.{nat_eq}
use Rattle.std.specs.List.{AllByRecursion, IsDistinct, list_any}
use Rattle.std.proofs.lemmas.Bool.{cases_Bool, or_cases, eqb-true}
use Rattle.std.proofs.lemmas.Map.Steps.{length-le_from_distinct_below}
use Rattle.claims_world.specs.Memory.{IsNone, AreOnce}
use Rattle.law_microframes.specs.time.Counts.{IsBlockBelow, IsBlockInWords, AreFewerThanBlocks, AreFewerThanWords}

same_address : (v u : ℕ) → v % 32 ≡ 0 → u % 32 ≡ 0 → v / 32 ≡ u / 32 → v ≡ u
same_address v u one two same = omega (arith, one, two, same)

differ : (v u : ℕ) → v % 32 ≡ 0 → u % 32 ≡ 0 → v ≢ u → nat_eq (v / 32) (u / 32) ≡ false
differ v u one two apart =
    ⊎_elim (λ (is : nat_eq (v / 32) (u / 32) ≡ true). absurd (apart (same_address v u one two (eqb-true (v / 32) (u / 32) is))))
    (λ (isnt : nat_eq (v / 32) (u / 32) ≡ false). isnt)
    (cases_Bool (nat_eq (v / 32) (u / 32)))

blocks : List ℕ → List ℕ
blocks [] = []
blocks (v ∷ vs) = v / 32 ∷ blocks vs

as_many : (vs : List ℕ) → length (blocks vs) ≡ length vs
unfolding blocks
as_many [] = refl
as_many (v ∷ vs) = ap suc (as_many vs)

other_blocks : (n v : ℕ) (vs : List ℕ) → v % 32 ≡ 0 → IsNone v vs → AllByRecursion (IsBlockBelow n) vs → AllByRecursion (λ y. nat_eq (v / 32) y ≡ false) (blocks vs)
unfolding blocks
other_blocks n v [] aligned none all = tt
other_blocks n v (u ∷ us) aligned none all = (differ v u aligned all.0.aligned none.0, other_blocks n v us aligned none.1 all.1)

distinct : (n : ℕ) (vs : List ℕ) → AreOnce vs → AllByRecursion (IsBlockBelow n) vs → IsDistinct nat_eq (blocks vs)
unfolding blocks IsDistinct
distinct n [] once all = tt
distinct n (v ∷ vs) once all = (other_blocks n v vs all.0.aligned once.0 all.1, distinct n vs once.1 all.1)

block_below : (n v q : ℕ) → v < 32 * n → q ≡ v / 32 → q < n
block_below n v q below is = omega (arith, below, is)

all_below : (n : ℕ) (vs : List ℕ) → AllByRecursion (IsBlockBelow n) vs → (q : ℕ) → list_any (nat_eq q) (blocks vs) ≡ true → q < n
unfolding blocks
all_below n [] all q has = cc
all_below n (v ∷ vs) all q has =
    ⊎_elim (λ (is : nat_eq q (v / 32) ≡ true). block_below n v q all.0.below (eqb-true q (v / 32) is))
    (λ (later : list_any (nat_eq q) (blocks vs) ≡ true). all_below n vs all.1 q later)
    (or_cases (nat_eq q (v / 32)) (list_any (nat_eq q) (blocks vs)) has)

pub are_fewer_than_blocks : AreFewerThanBlocks
are_fewer_than_blocks n vs once all = subst (λ (many : ℕ). many ≤ n) (as_many vs) (length-le_from_distinct_below (blocks vs) n (distinct n vs once all) (all_below n vs all))

within_words : (n v : ℕ) → v % 32 ≡ 0 → v + 32 ≤ 4 * n → v < 32 * (n / 8)
within_words n v aligned within = omega (arith, aligned, within)

all_within : (n : ℕ) (vs : List ℕ) → AllByRecursion (IsBlockInWords n) vs → AllByRecursion (IsBlockBelow (n / 8)) vs
all_within n [] all = tt
all_within n (v ∷ vs) all = (record { aligned = all.0.aligned; below = within_words n v all.0.aligned all.0.within }, all_within n vs all.1)

pub are_fewer_than_words : AreFewerThanWords
are_fewer_than_words n vs once all = are_fewer_than_blocks (n / 8) vs once (all_within n vs all)
