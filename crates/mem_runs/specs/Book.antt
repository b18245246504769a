-- The runs of blocks that a driver has, each told by the block in which it begins (EHCI 1.0, 3: structures and buffers that the
-- controller reads lie in memory that it shares with its driver). Memory and book change together.
--     Book                    the run that begins in each block, and where those begin that were taken last and aren't lent yet
--     Holding                 a book and the memory of its runs
--     Stands h                memory's blocks stand as the book says: those of its runs Kept or Lent, all others Free and their words 0
--     slot_at h b             the run that begins in block b, if there is one
--     take_run h n            the lowest run of n Free blocks was taken; None: there is none
--     IsTakenFrom h0 h        h was reached from h0 by taking runs
--     lend_taken h            the runs taken last are lent
--     release_run h b         the run that begins in block b, where one is lent, is given back
--     store h b at v          v is written at the byte address `at`, which lies in the run that begins in block b; else nothing differs
--     store_words h b at ws   these words are written there, one after the other
use Rattle.std.specs.Prelude.{◌≡◌, ℕ, ◌+◌, ◌*◌, ◌<◌, ◌≤◌, Bool, false, ◌&&◌, nat_le, nat_lt, List, [], ◌∷◌, ◌++◌, length, reverse, slice_get, slice_index, slice_index_or, slice_set, Option, Some, option_map, if◌then◌else◌}
use Rattle.word_mem.specs.Runs.{Run}
use Rattle.word_mem.specs.Memory.{Mem, IsShaped, with_word, with_states, released}
use Rattle.word_mem.specs.Free.{IsTaken, lowest_run}
use Rattle.word_mem.specs.Owners.{IsHeldBy}
use Rattle.word_mem.specs.declared.blocks.BlockState.TheVariants.{Free, Kept, Lent}
use Rattle.mem_runs.specs.declared.slots.Slot.{Slot}
use Rattle.mem_runs.specs.declared.slots.Slot.TheVariants.{Empty, Keeps, Lends}

pub record Book : Type 0 where
  pub slots : List Slot  -- by block
  pub taken : List ℕ  -- blocks in which the runs begin that aren't lent yet, in the order of taking

pub record Holding : Type 0 where
  pub book : Book
  pub memory : Mem

abbrev pub holding : Book → Mem → Holding
holding k m = record { book = k; memory = m }

-- ---- whose the blocks are

abbrev pub kept_of : Slot → List Run
kept_of Empty = []
kept_of (Keeps r) = r ∷ []
kept_of (Lends r) = []

abbrev pub lent_of : Slot → List Run
lent_of Empty = []
lent_of (Keeps r) = []
lent_of (Lends r) = r ∷ []

-- the runs that are kept, and those that are lent
abbrev pub kept_in : List Slot → List Run
kept_in [] = []
kept_in (s ∷ ss) = kept_of s ++ kept_in ss

abbrev pub lent_in : List Slot → List Run
lent_in [] = []
lent_in (s ∷ ss) = lent_of s ++ lent_in ss

-- the slot's run begins in block b, and has a block
abbrev pub IsAt : ℕ → Slot → Type 0
IsAt b Empty = Unit {0}
IsAt b (Keeps r) = (r.first ≡ b) × (1 ≤ r.blocks)
IsAt b (Lends r) = (r.first ≡ b) × (1 ≤ r.blocks)

abbrev pub slot_of : List Slot → ℕ → Slot
slot_of slots b = slice_index_or slots b Empty

pub record Stands (h : Holding) : Type 0 where
  pub held : IsHeldBy h.memory (kept_in h.book.slots) (lent_in h.book.slots)
  pub placed : (b : ℕ) → IsAt b (slot_of h.book.slots b)
  pub clean : (b i : ℕ) → slice_get h.memory.states b ≡ Some Free → i < 8 → slice_index h.memory.words (8 * b + i) ≡ 0
  pub sizes : length h.book.slots ≡ length h.memory.states
  pub few : length h.book.taken ≤ length (kept_in h.book.slots)

abbrev pub slot_at : Holding → ℕ → Slot
slot_at h b = slot_of h.book.slots b

abbrev pub with_slot : Book → ℕ → Slot → Book
with_slot k b s = record k { slots = slice_set k.slots b s }

-- ---- taking

-- this run, which was Free, was taken
abbrev pub with_run : Holding → Run → Holding
with_run h r = record {
  book = record { slots = slice_set h.book.slots r.first (Keeps r); taken = h.book.taken ++ r.first ∷ [] };
  memory = with_states h.memory r Kept;
}

abbrev pub take_run : Holding → ℕ → Option Holding
take_run h n = option_map (with_run h) (lowest_run h.memory.states n)

-- h was reached from h0 by taking runs
pub data IsTakenFrom (h0 : Holding) : Holding → Type 0 where
  nothing : IsTakenFrom h0 h0
  one_more : (h : Holding) (n : ℕ) (r : Run) → IsTakenFrom h0 h → Stands h → IsShaped h.memory → IsTaken h.memory.states n (Some r) → IsTakenFrom h0 (with_run h r)

-- ---- lending

abbrev pub lend_slot : Holding → ℕ → Slot → Holding
lend_slot h b Empty = h
lend_slot h b (Keeps r) = record { book = with_slot h.book b (Lends r); memory = with_states h.memory r Lent }
lend_slot h b (Lends r) = h

-- the runs that begin in these blocks
unfoldable pub lend_runs : Holding → List ℕ → Holding
lend_runs h [] = h
lend_runs h (b ∷ bs) = lend_runs (lend_slot h b (slot_at h b)) bs

abbrev pub none_taken : Holding → Holding
none_taken h = record h { book = record h.book { taken = [] } }

abbrev pub lend_taken : Holding → Holding
lend_taken h = lend_runs (none_taken h) (reverse h.book.taken)

-- ---- giving back

abbrev pub release_slot : Holding → ℕ → Slot → Holding
release_slot h b Empty = h
release_slot h b (Keeps r) = h
release_slot h b (Lends r) = record { book = with_slot h.book b Empty; memory = released h.memory r }

-- a run that was taken last, or that is lent
abbrev pub drop_slot : Holding → ℕ → Slot → Holding
drop_slot h b Empty = h
drop_slot h b (Keeps r) = record { book = with_slot h.book b Empty; memory = released h.memory r }
drop_slot h b (Lends r) = h

abbrev pub release_run : Holding → ℕ → Holding
release_run h b = release_slot h b (slot_at h b)

-- ---- writing

abbrev pub has_address : Run → ℕ → Bool
has_address r at = nat_le (32 * r.first) at && nat_lt at (32 * (r.first + r.blocks))

abbrev pub can_store : Slot → ℕ → Bool
can_store Empty at = false
can_store (Keeps r) at = has_address r at
can_store (Lends r) at = has_address r at

abbrev pub store : Book → Mem → ℕ → ℕ → ℕ → Mem
store k m b at v = if can_store (slot_of k.slots b) at then with_word m at v else m

unfoldable pub store_words : Book → Mem → ℕ → ℕ → List ℕ → Mem
store_words k m b at [] = m
store_words k m b at (v ∷ vs) = store_words k (store k m b at v) b (at + 4) vs
