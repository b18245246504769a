-- The run that `take` hands out and the longest one, as functions of the states.
use Rattle.std.proofs.Common.{◌≡◌, ◌≢◌, ℕ, zero, suc, ◌+◌, ◌-◌, ◌%◌, ◌<◌, ◌≤◌, ◌⊎◌, Bool, true, false, ◌&&◌, List, [], ◌∷◌, Option, Some, None, length, take, drop, get_or, cond, arith, ap, sym, subst, ◌∙◌, inl, inr, ⊎_elim, refl}
use Rattle.std.specs.Prelude.{is_some}
use Rattle.std.specs.List.{list_all}
use Rattle.std.specs.Option.{option_map}
use Rattle.std.proofs.lemmas.Bool.{cases_lt, cases_Bool, false≢true}
use Rattle.std.proofs.lemmas.Bool.Decides.{nat_tests}
use Rattle.std.proofs.lemmas.List.{get_or-take, get_or-drop, length-take, length-drop}
use Rattle.std.proofs.lemmas.Option.{get_or_from_slice_get, slice_get-get_or}
use Rattle.word_mem.specs.Runs.{Run}
use Rattle.word_mem.specs.Free.{IsFreeRun, IsLowest, HasNoFreeRun, IsLongest, is_free, is_free_run, least, greatest, lowest_run, longest_run}
use Rattle.word_mem.proofs.FreeTail.{run_within}
use Rattle.word_mem.specs.declared.blocks.BlockState.{BlockState}
use Rattle.word_mem.specs.declared.blocks.BlockState.TheVariants.{Free, Kept, Lent}

-- the first number that passes is the least
pub least_is : (test : ℕ → Bool) (from count k : ℕ) → from ≤ k → k < from + count → test k ≡ true → ((j : ℕ) → j < k → test j ≡ false) → least test from count ≡ Some k
least_is test from zero k low high passes before = absurd (omega arith)
least_is test from (suc count) k low high passes before =
    ⊎_elim
    (λ (lt : from < k). ap (λ b. cond b (Some from) (least test (suc from) count)) (before from lt) ∙ least_is test (suc from) count k (omega arith) (omega arith) passes before)
    (λ (ge : k ≤ from).
    let e : k ≡ from = omega arith in
    ap (λ b. cond b (Some from) (least test (suc from) count)) (subst (λ (j : ℕ). test j ≡ true) e passes) ∙ ap Some (sym e)) (cases_lt from k)

pub least_none : (test : ℕ → Bool) (from count : ℕ) → ((j : ℕ) → test j ≡ false) → least test from count ≡ None
least_none test from zero fails = refl
least_none test from (suc count) fails = ap (λ b. cond b (Some from) (least test (suc from) count)) (fails from) ∙ least_none test (suc from) count fails

pub greatest_is : (test : ℕ → Bool) (most k : ℕ) → k ≤ most → ((k ≡ 0) ⊎ (test k ≡ true)) → ((j : ℕ) → k < j → test j ≡ false) → greatest test most ≡ k
greatest_is test zero k low passes after = omega arith
greatest_is test (suc most) k low passes after =
    ⊎_elim
    (λ (lt : k < suc most). ap (λ b. cond b (suc most) (greatest test most)) (after (suc most) lt) ∙ greatest_is test most k (omega arith) passes after)
    (λ (ge : suc most ≤ k).
    let e : k ≡ suc most = omega arith in
    ⊎_elim (λ (none : k ≡ 0). absurd (omega arith))
    (λ (pass : test k ≡ true). ap (λ b. cond b (suc most) (greatest test most)) (subst (λ (j : ℕ). test j ≡ true) e pass) ∙ sym e) passes) (cases_lt k (suc most))

-- the blocks of a list are Free where the test says so of all of them, and the other way round
list_all_free : (xs : List BlockState) → ((k : ℕ) → k < length xs → get_or xs k Kept ≡ Free) → list_all is_free xs ≡ true
list_all_free [] each = refl
list_all_free (x ∷ xs) each =
    ap (λ b. b && list_all is_free xs) (ap is_free (each 0 (omega arith))) ∙ list_all_free xs (λ k below. each (suc k) (omega arith))

free_at : (xs : List BlockState) (k : ℕ) → list_all is_free xs ≡ true → k < length xs → get_or xs k Kept ≡ Free
free_at [] k passes below = absurd (omega arith)
free_at (Free ∷ xs) zero passes below = refl
free_at (Free ∷ xs) (suc k) passes below = free_at xs k passes (omega arith)
free_at (Kept ∷ xs) k passes below = absurd (false≢true passes)
free_at (Lent ∷ xs) k passes below = absurd (false≢true passes)

-- the test means what it says
pub passes_if_free : (states : List BlockState) (first n : ℕ) → IsFreeRun states first n → is_free_run states first n ≡ true
passes_if_free states first n run =
    let within = run_within states first n run in
    let front = list_all_free (take n (drop first states)) (λ k below.
    let few : k < n = omega (arith, below, length-take n (drop first states), length-drop first states) in
    get_or-take n (drop first states) k Kept few ∙ get_or-drop first states k Kept
    ∙ get_or_from_slice_get states (first + k) Free Kept (run.free (first + k) (omega arith) (omega arith))) in
    grind (arith, nat_tests, run.some, run.one_page, within, front)

pub free_if_passes : (states : List BlockState) (first n : ℕ) → is_free_run states first n ≡ true → IsFreeRun states first n
free_if_passes states first n passes =
    let parts : (1 ≤ n) × (first % 128 + n ≤ 128) × (first + n ≤ length states) × (list_all is_free (take n (drop first states)) ≡ true) = grind (arith, nat_tests) in
    record {
      some = parts.0;
      one_page = parts.1;
      free = λ b from below.
          let here = free_at (take n (drop first states)) (b - first) parts.3 (omega (arith, length-take n (drop first states), length-drop first states, parts.2)) in
          let place : first + (b - first) ≡ b = omega arith in
          slice_get-get_or states b Kept (omega (arith, parts.2))
          ∙ ap Some (sym (ap (λ k. get_or states k Kept) place) ∙ sym (get_or-drop first states (b - first) Kept) ∙ sym (get_or-take n (drop first states) (b - first) Kept (omega arith)) ∙ here);
    }

fails_if_not : (states : List BlockState) (first n : ℕ) → (IsFreeRun states first n → ⊥) → is_free_run states first n ≡ false
fails_if_not states first n none =
    ⊎_elim (λ (passes : is_free_run states first n ≡ true). absurd (none (free_if_passes states first n passes)))
    (λ (fails : is_free_run states first n ≡ false). fails) (cases_Bool (is_free_run states first n))

-- the lowest run is the one that the function finds
pub lowest_is : (states : List BlockState) (n first : ℕ) → IsLowest states n first → lowest_run states n ≡ Some (record { first = first; blocks = n })
unfolding lowest_run
lowest_is states n first low =
    let within = run_within states first n low.free_run in
    let found = least_is (λ k. is_free_run states k n) 0 (length states) first (omega arith) (omega (arith, within, low.free_run.some)) (passes_if_free states first n low.free_run)
    (λ k below. fails_if_not states k n (λ run. let low_first = low.lowest k run in absurd (omega arith))) in
    ap (λ (o : Option ℕ). option_map (λ (k : ℕ). let r : Run = record { first = k; blocks = n } in r) o) found

pub lowest_none : (states : List BlockState) (n : ℕ) → HasNoFreeRun states n → lowest_run states n ≡ None
unfolding lowest_run
lowest_none states n none =
    ap (λ (o : Option ℕ). option_map (λ (k : ℕ). let r : Run = record { first = k; blocks = n } in r) o)
    (least_none (λ k. is_free_run states k n) 0 (length states) (λ k. fails_if_not states k n (none k)))

-- what the function finds is a run
least_passes : (test : ℕ → Bool) (from count : ℕ) → is_some (least test from count) ≡ true → (k : ℕ) × (test k ≡ true)
least_passes test from zero some = absurd (false≢true some)
least_passes test from (suc count) some =
    ⊎_elim (λ (passes : test from ≡ true). (from, passes))
    (λ (fails : test from ≡ false).
    least_passes test (suc from) count (sym (ap (λ b. is_some (cond b (Some from) (least test (suc from) count))) fails) ∙ some)) (cases_Bool (test from))

-- the least is there where some number passes
least_some : (test : ℕ → Bool) (from count k : ℕ) → from ≤ k → k < from + count → test k ≡ true → is_some (least test from count) ≡ true
least_some test from zero k low high passes = absurd (omega arith)
least_some test from (suc count) k low high passes =
    ⊎_elim (λ (here : test from ≡ true). ap (λ b. is_some (cond b (Some from) (least test (suc from) count))) here)
    (λ (fails : test from ≡ false).
    let later : from ≢ k = λ e. false≢true (sym fails ∙ subst (λ (j : ℕ). test j ≡ true) (sym e) passes) in
    ap (λ b. is_some (cond b (Some from) (least test (suc from) count))) fails ∙ least_some test (suc from) count k (omega arith) (omega arith) passes) (cases_Bool (test from))

is_some-option_map : (o : Option ℕ) (f : ℕ → Run) → is_some (option_map f o) ≡ is_some o
is_some-option_map None f = refl
is_some-option_map (Some k) f = refl

some_if_run : (states : List BlockState) (n first : ℕ) → IsFreeRun states first n → is_some (lowest_run states n) ≡ true
unfolding lowest_run
some_if_run states n first run =
    is_some-option_map _ _
    ∙ least_some (λ k. is_free_run states k n) 0 (length states) first (omega arith) (omega (arith, run_within states first n run, run.some)) (passes_if_free states first n run)

run_if_some : (states : List BlockState) (n : ℕ) → is_some (lowest_run states n) ≡ true → (first : ℕ) × IsFreeRun states first n
unfolding lowest_run
run_if_some states n some =
    let found = least_passes (λ k. is_free_run states k n) 0 (length states) (sym (is_some-option_map (least (λ k. is_free_run states k n) 0 (length states)) (λ k. record { first = k; blocks = n })) ∙ some) in
    (found.0, free_if_passes states found.0 n found.1)

none_if_longer : (states : List BlockState) (n other : ℕ) → IsLongest states n → n < other → is_some (lowest_run states other) ≡ false
none_if_longer states n other long longer =
    ⊎_elim (λ (some : is_some (lowest_run states other) ≡ true).
    let found = run_if_some states other some in
    let less = long.longest found.0 other found.1 in
    absurd (omega arith))
    (λ (none : is_some (lowest_run states other) ≡ false). none) (cases_Bool (is_some (lowest_run states other)))

reached_most : (states : List BlockState) (n : ℕ) → IsLongest states n → n ≤ 128
reached_most states n long =
    ⊎_elim (λ (none : n ≡ 0). omega arith) (λ (some : (first : ℕ) × IsFreeRun states first n). omega (arith, some.1.one_page)) long.there

-- the longest run is the one that the function finds
pub longest_is : (states : List BlockState) (n : ℕ) → IsLongest states n → n ≡ longest_run states
unfolding longest_run
longest_is states n long =
    sym (greatest_is (λ k. is_some (lowest_run states k)) 128 n (reached_most states n long)
    (⊎_elim (λ (none : n ≡ 0). inl none) (λ (some : (first : ℕ) × IsFreeRun states first n). inr (some_if_run states n some.0 some.1)) long.there)
    (λ j longer. none_if_longer states n j long longer))
