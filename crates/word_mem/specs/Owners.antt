-- The states of all blocks, told by the runs that their holder has.
--     has_block r b            b is one of the run's blocks
--     holders rs b             how many of the runs have block b
--     state_by l k             the state of a block that l lent and k kept runs have: Free where none has it
--     IsHeldBy m kept lent     each block has the state that these runs tell; no two of them share a block, and none goes past the last
--     AreDisjoint rs           no two of the runs share a block
--     TakingKeeps, LendingKeeps, UnlendingKeeps, ReleasingKeeps
--                              `IsHeldBy` after a run was taken, lent, got back or released, with the runs that are then in hand
--     HasNoOrder               `IsHeldBy` asks only how many of the runs have each block
use Rattle.std.specs.Prelude.{◌≡◌, ℕ, zero, suc, ◌+◌, ◌<◌, ◌≤◌, Bool, ◌&&◌, nat_le, nat_lt, List, [], ◌∷◌, length, AllPairs, Some, if◌then◌else◌}
use Rattle.word_mem.specs.Runs.{Run, AreApart}
use Rattle.word_mem.specs.Memory.{Mem, state_at, with_states, released}
use Rattle.word_mem.specs.Free.{IsTaken}
use Rattle.word_mem.specs.declared.blocks.BlockState.{BlockState}
use Rattle.word_mem.specs.declared.blocks.BlockState.TheVariants.{Free, Kept, Lent}

abbrev pub has_block : Run → ℕ → Bool
has_block r b = nat_le r.first b && nat_lt b (r.first + r.blocks)

abbrev pub holders : List Run → ℕ → ℕ
holders [] b = 0
holders (r ∷ rs) b = (if has_block r b then 1 else 0) + holders rs b

abbrev pub state_by : ℕ → ℕ → BlockState
state_by (suc l) k = Lent
state_by zero (suc k) = Kept
state_by zero zero = Free

pub record IsHeldBy (m : Mem) (kept lent : List Run) : Type 0 where
  pub each : (b : ℕ) → b < length m.states → state_at m b ≡ Some (state_by (holders lent b) (holders kept b))
  pub once : (b : ℕ) → holders kept b + holders lent b ≤ 1
  pub within : (b : ℕ) → length m.states ≤ b → holders kept b + holders lent b ≡ 0

abbrev pub AreDisjoint : List Run → Type 0
AreDisjoint rs = AllPairs AreApart rs

abbrev pub TakingKeeps : Type 0
TakingKeeps = (m : Mem) (n : ℕ) (r : Run) (kept lent : List Run) → IsTaken m.states n (Some r)
    → IsHeldBy m kept lent → IsHeldBy (with_states m r Kept) (r ∷ kept) lent

abbrev pub LendingKeeps : Type 0
LendingKeeps = (m : Mem) (r : Run) (kept lent : List Run) → 1 ≤ r.blocks
    → IsHeldBy m (r ∷ kept) lent → IsHeldBy (with_states m r Lent) kept (r ∷ lent)

abbrev pub UnlendingKeeps : Type 0
UnlendingKeeps = (m : Mem) (r : Run) (kept lent : List Run) → 1 ≤ r.blocks
    → IsHeldBy m kept (r ∷ lent) → IsHeldBy (with_states m r Kept) (r ∷ kept) lent

abbrev pub ReleasingKeeps : Type 0
ReleasingKeeps = (m : Mem) (r : Run) (kept lent : List Run) → 1 ≤ r.blocks
    → IsHeldBy m (r ∷ kept) lent → IsHeldBy (released m r) kept lent

abbrev pub HasNoOrder : Type 0
HasNoOrder = (m : Mem) (kept lent kept_otherwise lent_otherwise : List Run)
    → ((b : ℕ) → holders kept b ≡ holders kept_otherwise b) → ((b : ℕ) → holders lent b ≡ holders lent_otherwise b)
    → IsHeldBy m kept lent → IsHeldBy m kept_otherwise lent_otherwise
