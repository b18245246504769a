-- Marks of memory's units of 32 bytes: the number of the list that marked a unit last.
use Rattle.std.specs.Prelude.{◌≡◌, ℕ, ◌/◌, ◌%◌, ◌<◌, ◌&&◌, ◌⊎◌, Bool, true, ◌==◌, nat_lt, List, length, slice_index}
use Rattle.image_show.specs.Linked.{is_in}

-- the unit of an address has the mark `number`
abbrev pub is_marked : List ℕ → ℕ → ℕ → Bool
is_marked marks number a = nat_lt (a / 32) (length marks) && slice_index marks (a / 32) == number

-- the unit of an address has the mark of a list before `number`; 0 is the mark of none
abbrev pub is_marked_before : List ℕ → ℕ → ℕ → Bool
is_marked_before marks number a = nat_lt (a / 32) (length marks) && nat_lt 0 (slice_index marks (a / 32)) && nat_lt (slice_index marks (a / 32)) number

-- no unit has the mark `number`
abbrev pub IsFresh : List ℕ → ℕ → Type 0
IsFresh marks number = (u : ℕ) → u < length marks → slice_index marks u ≡ number → ⊥

-- the unit of an address has the mark of some list
abbrev pub is_shown : List ℕ → ℕ → Bool
is_shown marks a = nat_lt (a / 32) (length marks) && nat_lt 0 (slice_index marks (a / 32))

-- The marks as the list `number` begins: the lists before it have shown the structures `seen`, and each unit that a
-- queue has marked bears the address of a queue head that was shown (1 is no address of one).
pub record AreMarks (lists queues : List ℕ) (number : ℕ) (seen : List ℕ) : Type 0 where
  pub below : (u : ℕ) → slice_index lists u < number
  pub earlier : (a : ℕ) → a % 32 ≡ 0 → is_marked_before lists number a ≡ is_in a seen
  pub owned : (u : ℕ) → u < length queues → (slice_index queues u ≡ 1) ⊎ (is_shown lists (slice_index queues u) ≡ true)
