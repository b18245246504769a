-- The memory that the host's driver and its controller share, as contracts see it.
--     Mem                     its words, the state of each block, and how often the controller was refused
--     IsShaped m              1,024 to 262,144 words in whole pages, and eight of them to a block
--     word_at m at            the word at the byte address `at`, a multiple of 4
--     state_at m b            the state of block b, and None past the last block
--     reaches m at            the controller may touch the word at `at`: its block is Lent
--     AreAll m s r            every block of the run r has the state s
--     fresh n, all_lent ws    a memory just built: n words of 0 and Free blocks; these words, all of them Lent
--     with_word m at v        the word at `at` is v now, and nothing else differs
--     with_states m r s       the blocks of r have the state s now, and nothing else differs
--     released m r            the blocks of r are Free and their words 0 now, and nothing else differs
--     refused m               one more refusal is counted, up to 2 ^ 64 - 1, and nothing else differs
use Rattle.std.specs.Prelude.{◌≡◌, ℕ, ◌+◌, ◌-◌, ◌*◌, ◌/◌, ◌%◌, ◌^◌, ◌<◌, ◌≤◌, min, Bool, true, false, List, ◌++◌, length, take, drop, replicate, slice_get, slice_index, slice_set, Option, Some, None}
use Rattle.usb_base.specs.Limits.{most_memory}
use Rattle.word_mem.specs.Runs.{Run}
use Rattle.word_mem.specs.declared.blocks.BlockState.{BlockState}
use Rattle.word_mem.specs.declared.blocks.BlockState.TheVariants.{Free, Kept, Lent}

pub record Mem : Type 0 where
  pub words : List ℕ
  pub states : List BlockState
  pub foreign : ℕ

pub record IsShaped (m : Mem) : Type 0 where
  pub at_least : 1024 ≤ length m.words
  pub at_most : length m.words ≤ most_memory
  pub whole_pages : length m.words % 1024 ≡ 0
  pub eight_each : length m.words ≡ 8 * length m.states

abbrev pub word_at : Mem → ℕ → ℕ
word_at m at = slice_index m.words (at / 4)

abbrev pub state_at : Mem → ℕ → Option BlockState
state_at m b = slice_get m.states b

abbrev pub is_lent : Option BlockState → Bool
is_lent None = false
is_lent (Some Free) = false
is_lent (Some Kept) = false
is_lent (Some Lent) = true

abbrev pub reaches : Mem → ℕ → Bool
reaches m at = is_lent (state_at m (at / 32))

abbrev pub AreAll : Mem → BlockState → Run → Type 0
AreAll m s r = (b : ℕ) → r.first ≤ b → b < r.first + r.blocks → slice_get m.states b ≡ Some s

abbrev pub fresh : ℕ → Mem
fresh n = record { words = replicate n 0; states = replicate (n / 8) Free; foreign = 0 }

abbrev pub all_lent : List ℕ → Mem
all_lent ws = record { words = ws; states = replicate (length ws / 8) Lent; foreign = 0 }

-- the list with x in n places from `first` on
unfoldable pub filled : {X : Type 0} → List X → ℕ → ℕ → X → List X
filled xs first n x = take first xs ++ (replicate n x ++ drop (first + n) xs)

abbrev pub with_word : Mem → ℕ → ℕ → Mem
with_word m at v = record m { words = slice_set m.words (at / 4) v }

abbrev pub with_states : Mem → Run → BlockState → Mem
with_states m r s = record m { states = filled m.states r.first r.blocks s }

abbrev pub released : Mem → Run → Mem
released m r =
    record m {
      words = filled m.words (8 * r.first) (8 * r.blocks) 0;
      states = filled m.states r.first r.blocks Free;
    }

abbrev pub refused : Mem → Mem
refused m = record m { foreign = min (m.foreign + 1) (2 ^ 64 - 1) }
