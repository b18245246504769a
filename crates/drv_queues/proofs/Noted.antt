-- What is noted of the qTDs of a transfer, one by one.
use Rattle.std.proofs.Common.{◌≡◌, ℕ, zero, suc, ◌+◌, ◌/◌, ◌<◌, ◌≤◌, Bool, true, false, nat_lt, cond, List, [], ◌∷◌, ◌++◌, length, take, drop, replicate, get_or, set, slice_get, Some, arith, ap, sym, ◌∙◌, refl}
use Rattle.std.proofs.lemmas.Bool.Decides.{nat_tests}
use Rattle.std.proofs.lemmas.List.{get_or-drop, drop-drop, length-replicate, take-replicate}
use Rattle.drv_table.specs.declared.content.Stage.{Stage}
use Rattle.drv_table.specs.declared.content.QtdNote.{QtdNote}
use Rattle.drv_table.specs.Words.{buffer_needs}
use Rattle.drv_table.specs.Offers.{note_for, note_stages, runs_of}
use Rattle.drv_queues.proofs.Taking.{drop_at, whole_pages}

-- how many runs a buffer has
pub count_runs : (n : ℕ) → 4096 < n → length (buffer_needs n) ≡ (n + 4095) / 4096
count_runs n long = ap (length {A = ℕ}) (whole_pages n long) ∙ length-replicate ((n + 4095) / 4096) 128

-- the block at place i of c, and 0 past them
abbrev pub pick : ℕ → List ℕ → ℕ → ℕ
pick c runs i = cond (nat_lt i c) (get_or runs i 0) 0

abbrev pub picks : ℕ → ℕ → ℕ → List ℕ → List ℕ
picks zero i c runs = []
picks (suc n) i c runs = pick c runs i ∷ picks n (suc i) c runs

either : (b : Bool) → ◌≡◌ {A = ℕ} (cond b 0 0) 0
either true = refl
either false = refl

picks_of_none : (n i c : ℕ) → picks n i c [] ≡ replicate n 0
picks_of_none zero i c = refl
picks_of_none (suc n) i c = ap (λ y. y ∷ picks n (suc i) c []) (either (nat_lt i c)) ∙ ap (λ l. 0 ∷ l) (picks_of_none n (suc i) c)

no_picks : (n i : ℕ) (runs : List ℕ) → picks n i zero runs ≡ replicate n 0
no_picks zero i runs = refl
no_picks (suc n) i runs =
    let e : nat_lt i zero ≡ false = grind (arith, nat_tests) in
    ap (λ b. cond b (get_or runs i 0) 0 ∷ picks n (suc i) zero runs) e ∙ ap (λ l. 0 ∷ l) (no_picks n (suc i) runs)

later_picks : (n i c x : ℕ) (xs : List ℕ) → picks n (suc i) (suc c) (x ∷ xs) ≡ picks n i c xs
later_picks zero i c x xs = refl
later_picks (suc n) i c x xs =
    let e : nat_lt (suc i) (suc c) ≡ nat_lt i c = grind (arith, nat_tests) in
    ap (λ b. cond b (get_or xs i 0) 0 ∷ picks n (suc (suc i)) (suc c) (x ∷ xs)) e ∙ ap (λ l. pick c xs i ∷ l) (later_picks n (suc i) c x xs)

pub padded : (n m c : ℕ) (runs : List ℕ) → n ≤ m → take n (take c runs ++ replicate m 0) ≡ picks n 0 c runs
padded n m zero runs few = take-replicate n m 0 few ∙ sym (no_picks n 0 runs)
padded n m (suc c) [] few = take-replicate n m 0 few ∙ sym (picks_of_none n 0 (suc c))
padded zero m (suc c) (x ∷ xs) few = refl
padded (suc n) m (suc c) (x ∷ xs) few =
    let e : nat_lt 0 (suc c) ≡ true = grind (arith, nat_tests) in
    ap (λ l. x ∷ l) (padded n m c xs (omega arith)) ∙ (sym (ap (λ l. x ∷ l) (later_picks n 0 c x xs)) ∙ sym (ap (λ b. cond b x 0 ∷ picks n 1 (suc c) (x ∷ xs)) e))

-- the block at place i of c from place `from` on
pub is_pick : (c from i v : ℕ) (runs : List ℕ) → v ≡ cond (nat_lt i c) (get_or runs (from + i) 0) 0 → v ≡ pick c (drop from runs) i
is_pick c from i v runs this = this ∙ ap (λ y. cond (nat_lt i c) y 0) (sym (get_or-drop from runs i 0))

pub noted : (s : Stage) (next from c : ℕ) (runs : List ℕ) (v0 v1 v2 v3 v4 : ℕ) → c ≡ runs_of s → v0 ≡ cond (nat_lt 0 c) (get_or runs (from + 0) 0) 0 → v1 ≡ cond (nat_lt 1 c) (get_or runs (from + 1) 0) 0 → v2 ≡ cond (nat_lt 2 c) (get_or runs (from + 2) 0) 0 → v3 ≡ cond (nat_lt 3 c) (get_or runs (from + 3) 0) 0 → v4 ≡ cond (nat_lt 4 c) (get_or runs (from + 4) 0) 0 → ◌≡◌ {A = QtdNote} (record { next = next; buffer = v0 ∷ v1 ∷ v2 ∷ v3 ∷ v4 ∷ []; runs = c; told = s.told; moved = 0 }) (note_for s next (drop from runs))
noted s next from c runs v0 v1 v2 v3 v4 count e0 e1 e2 e3 e4 =
    let p0 = is_pick c from 0 v0 runs e0 in
    let p1 = is_pick c from 1 v1 runs e1 in
    let p2 = is_pick c from 2 v2 runs e2 in
    let p3 = is_pick c from 3 v3 runs e3 in
    let p4 = is_pick c from 4 v4 runs e4 in
    let all : v0 ∷ v1 ∷ v2 ∷ v3 ∷ v4 ∷ [] ≡ picks 5 0 c (drop from runs) = cc in
    let list : v0 ∷ v1 ∷ v2 ∷ v3 ∷ v4 ∷ [] ≡ take 5 (take c (drop from runs) ++ replicate 5 0) = all ∙ sym (padded 5 5 c (drop from runs) (omega arith)) in
    ap (λ l. record { next = next; buffer = l; runs = c; told = s.told; moved = 0 }) list
    ∙ ap (λ n. record { next = next; buffer = take 5 (take n (drop from runs) ++ replicate 5 0); runs = n; told = s.told; moved = 0 }) count

-- the stage at place k
pub noted_next : (notes : List QtdNote) (ss : List Stage) (k : ℕ) (s : Stage) (b from : ℕ) (qtds runs : List ℕ) → slice_get ss k ≡ Some s → note_stages (set notes b (note_for s (get_or qtds k 0) (drop from runs))) (drop (k + 1) ss) (get_or qtds k 0) (drop (k + 1) qtds) (drop (from + runs_of s) runs) ≡ note_stages notes (drop k ss) b (drop k qtds) (drop from runs)
noted_next notes ss k s b from qtds runs there =
    let next : get_or (drop k qtds) 0 0 ≡ get_or qtds k 0 = get_or-drop k qtds 0 0 ∙ (let e : k + 0 ≡ k = omega arith in ap (λ i. get_or qtds i 0) e) in
    let rest : drop 1 (drop k qtds) ≡ drop (k + 1) qtds = drop-drop 1 k qtds in
    let more : drop (runs_of s) (drop from runs) ≡ drop (from + runs_of s) runs = drop-drop (runs_of s) from runs in
    sym
    (ap (λ l. note_stages notes l b (drop k qtds) (drop from runs)) (drop_at ss k s there)
    ∙ ap (λ q. note_stages (set notes b (note_for s q (drop from runs))) (drop (k + 1) ss) q (drop 1 (drop k qtds)) (drop (runs_of s) (drop from runs))) next
    ∙ ap (λ q. note_stages (set notes b (note_for s (get_or qtds k 0) (drop from runs))) (drop (k + 1) ss) (get_or qtds k 0) q (drop (runs_of s) (drop from runs))) rest
    ∙ ap (λ q. note_stages (set notes b (note_for s (get_or qtds k 0) (drop from runs))) (drop (k + 1) ss) (get_or qtds k 0) (drop (k + 1) qtds) q) more)
