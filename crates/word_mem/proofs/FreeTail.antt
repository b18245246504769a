-- How the Free blocks in a row before a block go on with it.
use Rattle.std.proofs.Common.{◌≡◌, ◌≢◌, ℕ, ◌+◌, ◌-◌, ◌%◌, ◌<◌, ◌≤◌, ◌⊎◌, List, Option, Some, length, slice_get, arith, refl, sym, subst, inl, inr, ⊎_elim}
use Rattle.std.proofs.lemmas.Bool.{cases_eq, cases_lt}
use Rattle.std.proofs.lemmas.Option.{slice_get_within}
use Rattle.word_mem.specs.Free.{IsFreeRun}
use Rattle.word_mem.specs.declared.blocks.BlockState.{BlockState}
use Rattle.word_mem.specs.declared.blocks.BlockState.TheVariants.{Free}

-- n is the length of the longest run of Free blocks in one page, or 0, among those that end right before block `end`
pub record IsFreeTail (states : List BlockState) (end n : ℕ) : Type 0 where
  pub short : n ≤ end
  pub one_page : (end - n) % 128 + n ≤ 128
  pub free : (b : ℕ) → end ≤ b + n → b < end → slice_get states b ≡ Some Free
  pub longest : (first other : ℕ) → first + other ≡ end → IsFreeRun states first other → other ≤ n

-- the front of a run is a run
pub shorter : (states : List BlockState) (first n m : ℕ) → IsFreeRun states first n → 1 ≤ m → m ≤ n → IsFreeRun states first m
shorter states first n m run some few =
    record {
      some = some;
      one_page = omega (arith, run.one_page);
      free = λ b from below. run.free b from (omega arith);
    }

-- a run lies inside memory
pub run_within : (states : List BlockState) (first n : ℕ) → IsFreeRun states first n → first + n ≤ length states
run_within states first n run =
    let last = slice_get_within states (first + n - 1) Free (run.free (first + n - 1) (omega (arith, run.some)) (omega (arith, run.some))) in
    omega (arith, last, run.some)

tail_grows : (states : List BlockState) (block before : ℕ) → IsFreeTail states block before → slice_get states block ≡ Some Free → block % 128 ≢ 0 → IsFreeTail states (block + 1) (before + 1)
tail_grows states block before tail free inner =
    record {
      short = omega (arith, tail.short);
      one_page = omega (arith, tail.short, tail.one_page);
      free = λ b from below.
          ⊎_elim (λ (lt : b < block). tail.free b (omega arith) lt)
          (λ (ge : block ≤ b). let e : block ≡ b = omega arith in subst (λ (k : ℕ). slice_get states k ≡ Some Free) e free) (cases_lt b block);
      longest = λ first other ends run.
          ⊎_elim (λ (lt : 1 < other). let less = tail.longest first (other - 1) (omega arith) (shorter states first other (other - 1) run (omega arith) (omega arith)) in omega (arith, less))
          (λ (ge : other ≤ 1). omega arith) (cases_lt 1 other);
    }

tail_ends : (states : List BlockState) (block : ℕ) → (slice_get states block ≡ Some Free → ⊥) → IsFreeTail states (block + 1) 0
tail_ends states block taken =
    record {
      short = omega arith;
      one_page = omega arith;
      free = λ b from below. absurd (omega arith);
      longest = λ first other ends run. absurd (taken (run.free block (omega (arith, run.some)) (omega (arith, run.some))));
    }

tail_begins : (states : List BlockState) (block : ℕ) → slice_get states block ≡ Some Free → block % 128 ≡ 0 → IsFreeTail states (block + 1) 1
tail_begins states block free edge =
    record {
      short = omega arith;
      one_page = omega arith;
      free = λ b from below. let e : block ≡ b = omega arith in subst (λ (k : ℕ). slice_get states k ≡ Some Free) e free;
      longest = λ first other ends run. omega (arith, run.one_page);
    }

tail_at : (states : List BlockState) (block before after : ℕ) (o : Option BlockState) → slice_get states block ≡ o → IsFreeTail states block before
    → (o ≡ Some Free → block % 128 ≢ 0 → after ≡ before + 1) → (o ≡ Some Free → block % 128 ≡ 0 → after ≡ 1) → (o ≢ Some Free → after ≡ 0)
    → IsFreeTail states (block + 1) after
tail_at states block before after (Some Free) is tail goes_on begins ends =
    ⊎_elim (λ (edge : block % 128 ≡ 0). subst (IsFreeTail states (block + 1)) (sym (begins refl edge)) (tail_begins states block is edge))
    (λ (inner : block % 128 ≢ 0). subst (IsFreeTail states (block + 1)) (sym (goes_on refl inner)) (tail_grows states block before tail is inner))
    (cases_eq (block % 128) 0)
tail_at states block before after _ is tail goes_on begins ends =
    subst (IsFreeTail states (block + 1)) (sym (ends (λ e. cc))) (tail_ends states block (λ e. cc))

-- the tail one block on
pub tail_next : (states : List BlockState) (block before after : ℕ) → IsFreeTail states block before
    → (slice_get states block ≡ Some Free → block % 128 ≢ 0 → after ≡ before + 1) → (slice_get states block ≡ Some Free → block % 128 ≡ 0 → after ≡ 1)
    → (slice_get states block ≢ Some Free → after ≡ 0) → IsFreeTail states (block + 1) after
tail_next states block before after tail goes_on begins ends = tail_at states block before after (slice_get states block) refl tail goes_on begins ends

-- no run that ends up to `block` is longer than `best`, and none that ends right after it is longer than `tail`
pub longest_more : (states : List BlockState) (block tail best most : ℕ) → IsFreeTail states (block + 1) tail → best ≤ most → tail ≤ most → ((first other : ℕ) → IsFreeRun states first other → first + other ≤ block → other ≤ best) → (first other : ℕ) → IsFreeRun states first other → first + other ≤ block + 1 → other ≤ most
longest_more states block tail best most here over above before first other run ends =
    ⊎_elim (λ (lt : first + other < block + 1). let less = before first other run (omega arith) in omega (arith, less))
    (λ (ge : block + 1 ≤ first + other). let less = here.longest first other (omega arith) run in omega (arith, less)) (cases_lt (first + other) (block + 1))

-- the tail, where it has a block, is a run
pub tail_run : (states : List BlockState) (end n : ℕ) → IsFreeTail states end n → 1 ≤ n → IsFreeRun states (end - n) n
tail_run states end n tail some =
    record {
      some = some;
      one_page = tail.one_page;
      free = λ b from below. tail.free b (omega (arith, tail.short)) (omega (arith, tail.short));
    }

-- no run of n ends before `block` or right after it, where the tail there is shorter
pub lowest_more : (states : List BlockState) (block tail n : ℕ) → IsFreeTail states (block + 1) tail → tail < n → ((first : ℕ) → IsFreeRun states first n → block < first + n) → (first : ℕ) → IsFreeRun states first n → block + 1 < first + n
lowest_more states block tail n here short before first run =
    ⊎_elim (λ (lt : block + 1 < first + n). lt)
    (λ (ge : first + n ≤ block + 1). let past = before first run in let less = here.longest first n (omega arith) run in absurd (omega (arith, less))) (cases_lt (block + 1) (first + n))

-- the greater of two lengths is the length of a run, or 0, where each is
abbrev pub IsReached : List BlockState → ℕ → Type 0
IsReached states n = (n ≡ 0) ⊎ ((first : ℕ) × IsFreeRun states first n)

pub tail_reached : (states : List BlockState) (end n : ℕ) → IsFreeTail states end n → IsReached states n
tail_reached states end n tail =
    ⊎_elim (λ (lt : 0 < n). inr (end - n, tail_run states end n tail (omega arith)))
    (λ (ge : n ≤ 0). inl (omega arith)) (cases_lt 0 n)
