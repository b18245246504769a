-- Layouts of structure words (EHCI 1.0, section 3). A word is a list of rows, from bit 31 down to bit 0, and a
-- structure is a list of words.
use Rattle.std.specs.Prelude.{◌≡◌, ℕ, zero, suc, ◌+◌, ◌-◌, ◌*◌, ◌/◌, ◌%◌, ◌^◌, ◌<◌, ◌≤◌, Bool, true, false, ◌==◌, ◌&&◌, ◌||◌, nat_lt, nat_le, if◌then◌else◌, List, [], ◌∷◌, Option, Some, None, Result, Ok, Err, slice_index}
use mir.Val.{bool_byte}
use Rattle.link_words.specs.declared.refusal.Bad.{Bad}

-- Which values of some bits are reserved: none, those above a number, 0, or any bit that is 1.
pub data Reserved : Type 0 where
  Free : Reserved
  Above : ℕ → Reserved
  Zero : Reserved
  Each : Reserved

-- One row of a word: its highest and its lowest bit, which of its values are reserved, and the field of the structure A
-- that stands there. An address has the bits from its lowest one up to bit 31 and is kept as it stands in the word,
-- so it is a multiple of 2 to that bit. A gap has no field: its bits are reserved and are 0.
pub data BitRow (A : Type 0) : Type 0 where
  Number : ℕ → ℕ → Reserved → (A → ℕ) → BitRow A
  Flag : ℕ → (A → Bool) → BitRow A
  Address : ℕ → (A → ℕ) → BitRow A
  Gap : ℕ → ℕ → BitRow A

-- a field of a part is a field of the whole
abbrev pub row_within : {A B : Type 0} → (B → A) → BitRow A → BitRow B
row_within of (Number high low reserved value) = Number high low reserved (λ v. value (of v))
row_within of (Flag bit value) = Flag bit (λ v. value (of v))
row_within of (Address low value) = Address low (λ v. value (of v))
row_within of (Gap high low) = Gap high low

abbrev pub within : {A B : Type 0} → (B → A) → List (BitRow A) → List (BitRow B)
within of [] = []
within of (row ∷ rows) = row_within of row ∷ within of rows

-- ---- writing

-- 1 for a flag that is set, else 0
abbrev pub flag : Bool → ℕ
flag b = bool_byte b

-- what a row adds to its word
abbrev pub part : {A : Type 0} → BitRow A → A → ℕ
part (Number high low reserved value) v = value v * 2 ^ low
part (Flag bit value) v = flag (value v) * 2 ^ bit
part (Address low value) v = value v
part (Gap high low) v = 0

-- the word: the sum over its rows
abbrev pub word_of : {A : Type 0} → List (BitRow A) → A → ℕ
word_of [] v = 0
word_of (row ∷ rows) v = part row v + word_of rows v

-- the words of a structure
abbrev pub words_of : {A : Type 0} → List (List (BitRow A)) → A → List ℕ
words_of [] v = []
words_of (rows ∷ layout) v = word_of rows v ∷ words_of layout v

-- ---- ranges

-- a number of so many bits that is not reserved
abbrev pub IsAllowed : Reserved → ℕ → ℕ → Type 0
IsAllowed Free width n = n < 2 ^ width
IsAllowed (Above most) width n = n ≤ most
IsAllowed Zero width n = (0 < n) × (n < 2 ^ width)
IsAllowed Each width n = n ≡ 0

abbrev pub IsWordInRange : {A : Type 0} → List (BitRow A) → A → Type 0
IsWordInRange [] v = Unit {0}
IsWordInRange (Number high low reserved value ∷ rows) v = IsAllowed reserved (high + 1 - low) (value v) × IsWordInRange rows v
IsWordInRange (Flag bit value ∷ rows) v = IsWordInRange rows v
IsWordInRange (Address low value ∷ rows) v = (value v % 2 ^ low ≡ 0) × IsWordInRange rows v
IsWordInRange (Gap high low ∷ rows) v = IsWordInRange rows v

-- Each field is in its range: a number fits its bits and is not reserved, an address is a multiple of 2 to its lowest bit.
abbrev pub IsInRange : {A : Type 0} → List (List (BitRow A)) → A → Type 0
IsInRange [] v = Unit {0}
IsInRange (rows ∷ layout) v = IsWordInRange rows v × IsInRange layout v

-- ---- reading

-- bits high to low of a word, as a number
abbrev pub bits : ℕ → ℕ → ℕ → ℕ
bits high low w = w / 2 ^ low % 2 ^ (high + 1 - low)

-- whether a bit of a word is 1
abbrev pub is_set : ℕ → ℕ → Bool
is_set bit w = w / 2 ^ bit % 2 == 1

-- the bits of a word from a lowest one up, as they stand
abbrev pub high_bits : ℕ → ℕ → ℕ
high_bits low w = w / 2 ^ low * 2 ^ low

-- ---- reserved bits

-- a row without its field
pub record BitRange : Type 0 where
  pub high : ℕ
  pub low : ℕ
  pub reserved : Reserved

abbrev pub range_of : {A : Type 0} → BitRow A → BitRange
range_of (Number high low reserved value) = record { high = high; low = low; reserved = reserved }
range_of (Flag bit value) = record { high = bit; low = bit; reserved = Free }
range_of (Address low value) = record { high = 31; low = low; reserved = Free }
range_of (Gap high low) = record { high = high; low = low; reserved = Each }

abbrev pub ranges_of : {A : Type 0} → List (BitRow A) → List BitRange
ranges_of [] = []
ranges_of (row ∷ rows) = range_of row ∷ ranges_of rows

-- Bit k of word w breaks the row from `low` to `high`: it is the lowest bit of a reserved value, or, where each bit of
-- the row is reserved, one of its bits that is 1.
abbrev pub breaks : Reserved → ℕ → ℕ → ℕ → ℕ → Bool
breaks Free high low k w = false
breaks (Above most) high low k w = k == low && nat_lt most (bits high low w)
breaks Zero high low k w = k == low && bits high low w == 0
breaks Each high low k w = nat_le low k && nat_le k high && is_set k w

abbrev pub is_bad : List BitRange → ℕ → ℕ → Bool
is_bad [] k w = false
is_bad (place ∷ places) k w = breaks place.reserved place.high place.low k w || is_bad places k w

-- the first bit, of n bits from k on, of which the test holds
abbrev pub first_bit : (ℕ → Bool) → ℕ → ℕ → Option ℕ
first_bit test k zero = None
first_bit test k (suc n) = if test k then Some k else first_bit test (suc k) n

-- the first bit of a word that breaks a row
unfoldable pub first_bad_bit : List BitRange → ℕ → Option ℕ
first_bad_bit places w = first_bit (λ k. is_bad places k w) 0 32

abbrev pub bad_or_later : ℕ → Option ℕ → Option Bad → Option Bad
bad_or_later number (Some bit) later = Some (record { word = number; bit = bit })
bad_or_later number None later = later

abbrev pub first_bad_from : {A : Type 0} → ℕ → List (List (BitRow A)) → List ℕ → Option Bad
first_bad_from number [] ws = None
first_bad_from number (rows ∷ layout) ws = bad_or_later number (first_bad_bit (ranges_of rows) (slice_index ws number)) (first_bad_from (suc number) layout ws)

-- the first bit of the words that breaks a row: by word, and then by bit
abbrev pub first_bad : {A : Type 0} → List (List (BitRow A)) → List ℕ → Option Bad
first_bad layout ws = first_bad_from 0 layout ws

-- what reading answers: the structure, or the first bit that breaks a row
abbrev pub unless_bad : {A : Type 0} → Option Bad → A → Result A Bad
unless_bad None v = Ok v
unless_bad (Some bad) v = Err bad

-- ---- sound tables

-- the largest number that is not reserved fits the row
abbrev pub fits : Reserved → ℕ → Bool
fits Free width = true
fits (Above most) width = nat_lt most (2 ^ width)
fits Zero width = true
fits Each width = true

-- each bit below `top` stands in exactly one row, and an address goes up to bit 31
abbrev pub is_sound_below : {A : Type 0} → ℕ → List (BitRow A) → Bool
is_sound_below top [] = top == 0
is_sound_below top (Number high low reserved value ∷ rows) = high + 1 == top && nat_le low high && fits reserved (high + 1 - low) && is_sound_below low rows
is_sound_below top (Flag bit value ∷ rows) = bit + 1 == top && is_sound_below bit rows
is_sound_below top (Address low value ∷ rows) = top == 32 && nat_lt low 32 && is_sound_below low rows
is_sound_below top (Gap high low ∷ rows) = high + 1 == top && nat_le low high && is_sound_below low rows

-- each of the 32 bits of each word stands in exactly one row
abbrev pub is_sound : {A : Type 0} → List (List (BitRow A)) → Bool
is_sound [] = true
is_sound (rows ∷ layout) = is_sound_below 32 rows && is_sound layout
