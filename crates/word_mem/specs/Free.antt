-- Which run `take` hands out, and how long the longest is. A run lies in one page, since no structure that the controller reads may cross
-- a boundary of 4,096 bytes (EHCI 1.0, 3).
--     IsFreeRun states first n        n Free blocks in a row from block `first` on, in one page
--     IsLowest states n first         `first` is the lowest block from which there is such a run of n
--     IsTaken states n r              r is the lowest such run of n; None: there is none
--     IsLongest states n              n is the length of the longest such run, or 0
--     lowest_run states n             that run, found by looking at each place; None: there is none
--     longest_run states              that length, found by looking for each
--     with_taken m r                  the blocks of the run handed out are Kept, and nothing else differs; None: nothing differs
use Rattle.std.specs.Prelude.{◌≡◌, ℕ, zero, suc, ◌+◌, ◌-◌, ◌%◌, ◌<◌, ◌≤◌, ◌⊎◌, Bool, true, false, ◌&&◌, nat_le, List, length, take, drop, slice_get, Option, Some, None, is_some, if◌then◌else◌}
use Rattle.std.specs.List.{list_all}
use Rattle.std.specs.Option.{option_map}
use Rattle.word_mem.specs.Runs.{Run}
use Rattle.word_mem.specs.Memory.{Mem, with_states}
use Rattle.word_mem.specs.declared.blocks.BlockState.{BlockState}
use Rattle.word_mem.specs.declared.blocks.BlockState.TheVariants.{Free, Kept, Lent}

pub record IsFreeRun (states : List BlockState) (first n : ℕ) : Type 0 where
  pub some : 1 ≤ n
  pub one_page : first % 128 + n ≤ 128
  pub free : (b : ℕ) → first ≤ b → b < first + n → slice_get states b ≡ Some Free

pub record IsLowest (states : List BlockState) (n first : ℕ) : Type 0 where
  pub free_run : IsFreeRun states first n
  pub lowest : (other : ℕ) → IsFreeRun states other n → first ≤ other

abbrev pub HasNoFreeRun : List BlockState → ℕ → Type 0
HasNoFreeRun states n = (first : ℕ) → IsFreeRun states first n → ⊥

abbrev pub IsTaken : List BlockState → ℕ → Option Run → Type 0
IsTaken states n None = HasNoFreeRun states n
IsTaken states n (Some r) = (r.blocks ≡ n) × IsLowest states n r.first

pub record IsLongest (states : List BlockState) (n : ℕ) : Type 0 where
  pub there : (n ≡ 0) ⊎ ((first : ℕ) × IsFreeRun states first n)
  pub longest : (first other : ℕ) → IsFreeRun states first other → other ≤ n

abbrev pub is_free : BlockState → Bool
is_free Free = true
is_free Kept = false
is_free Lent = false

-- the test for `IsFreeRun`
abbrev pub is_free_run : List BlockState → ℕ → ℕ → Bool
is_free_run states first n =
    nat_le 1 n && nat_le (first % 128 + n) 128 && nat_le (first + n) (length states) && list_all is_free (take n (drop first states))

-- the least number that passes the test, among `count` numbers from `from` on
abbrev pub least : (ℕ → Bool) → ℕ → ℕ → Option ℕ
least test from zero = None
least test from (suc count) = if test from then Some from else least test (suc from) count

-- the greatest number up to `most` that passes the test, or 0
abbrev pub greatest : (ℕ → Bool) → ℕ → ℕ
greatest test zero = 0
greatest test (suc most) = if test (suc most) then suc most else greatest test most

unfoldable pub lowest_run : List BlockState → ℕ → Option Run
lowest_run states n =
    option_map (λ first. record { first = first; blocks = n }) (least (λ first. is_free_run states first n) 0 (length states))

unfoldable pub longest_run : List BlockState → ℕ
longest_run states = greatest (λ n. is_some (lowest_run states n)) 128

abbrev pub with_taken : Mem → Option Run → Mem
with_taken m None = m
with_taken m (Some r) = with_states m r Kept
