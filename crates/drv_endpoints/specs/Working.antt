-- Endpoints by their numbers, and which of them have something to harvest, as the bits of words.
--     Roster            the endpoints in the order of opening, and how many there is room for
--     bit_of words k    bit k of a list of words of 64 bits
--     IsWorkSet xs ws   bit e tells whether endpoint e has something to harvest
--     IsFirst, AreNone  the first bit that is set, from one on; no bit is set from one on
use Rattle.std.specs.Prelude.{◌≡◌, ◌≢◌, ℕ, ◌/◌, ◌%◌, ◌≤◌, ◌<◌, Bool, false, List, slice_get, slice_index, if◌then◌else◌}
use Rattle.std.specs.Int.{bit_at}
use Rattle.std.specs.Option.{option_map_or}
use Rattle.drv_table.specs.declared.content.Endpoint.{Endpoint}
use Rattle.drv_table.specs.DriverContent.{works}

pub record Roster : Type 0 where
  pub items : List Endpoint
  pub most : ℕ

unfoldable pub bit_of : List ℕ → ℕ → ℕ
bit_of words k = bit_at (slice_index words (k / 64)) (k % 64)

abbrev pub works_at : List Endpoint → ℕ → Bool
works_at xs e = option_map_or works (slice_get xs e) false

pub record IsWorkSet (xs : List Endpoint) (words : List ℕ) : Type 0 where
  pub each : (e : ℕ) → bit_of words e ≡ (if works_at xs e then 1 else 0)

pub record IsFirst (words : List ℕ) (from e : ℕ) : Type 0 where
  pub on : from ≤ e
  pub set : bit_of words e ≡ 1
  pub before : (k : ℕ) → from ≤ k → k < e → bit_of words k ≡ 0

abbrev pub AreNone : List ℕ → ℕ → Type 0
AreNone words from = (k : ℕ) → from ≤ k → bit_of words k ≡ 0

-- ---- one word

-- the first bit of a word from bit s on
pub record IsLowest (n s i : ℕ) : Type 0 where
  pub on : s ≤ i
  pub within : i < 64
  pub set : bit_at n i ≡ 1
  pub before : (k : ℕ) → s ≤ k → k < i → bit_at n k ≡ 0

-- a word whose bit e % 64 is b, and whose other bits stay
pub record IsWritten (old new e : ℕ) (b : ℕ) : Type 0 where
  pub here : bit_at new (e % 64) ≡ b
  pub elsewhere : (i : ℕ) → i < 64 → i ≢ e % 64 → bit_at new i ≡ bit_at old i
