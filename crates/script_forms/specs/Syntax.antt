-- Numbers and bytes as words spell them.
use Rattle.std.specs.Prelude.{ℕ, ◌+◌, ◌-◌, ◌*◌, Bool, ◌==◌, ◌&&◌, nat_le, nat_lt, if◌then◌else◌, List, [], ◌∷◌, length, Option, Some, None, is_some, codes}
use Rattle.std.specs.Str.{bytes_eq}
use Rattle.std.specs.Str.Parse.{digits_value}
use Rattle.std.specs.Fmt.{decimal}
use Rattle.hex.specs.Hex.{encode_lower}

-- n, where the word is its decimal digits and it has 32 bits
abbrev pub if_spelled : List ℕ → ℕ → Option ℕ
if_spelled w n = if nat_lt n 4294967296 && bytes_eq w (decimal n) then Some n else None

-- the number that a word spells in decimal digits, without sign or leading zeros, below 2 ^ 32
unfoldable pub number_of : List ℕ → Option ℕ
number_of w = if_spelled w (digits_value 10 w)

-- the value of a digit 0 to 9 or a to f
abbrev pub nibble : ℕ → Option ℕ
nibble c =
    if nat_le 97 c && nat_le c 102 then Some (c - 87)
    else if nat_le 48 c && nat_le c 57 then Some (c - 48)
    else None

-- the byte of its high and its low digit
abbrev pub byte_of : Option ℕ → Option ℕ → Option ℕ
byte_of (Some high) (Some low) = Some (high * 16 + low)
byte_of (Some high) None = None
byte_of None low = None

-- a byte before others, where all are known
abbrev pub onto : Option ℕ → Option (List ℕ) → Option (List ℕ)
onto (Some b) (Some bs) = Some (b ∷ bs)
onto (Some b) None = None
onto None bs = None

-- the bytes of pairs of digits
abbrev pub pairs : List ℕ → Option (List ℕ)
pairs [] = Some []
pairs (a ∷ []) = None
pairs (a ∷ b ∷ rest) = onto (byte_of (nibble a) (nibble b)) (pairs rest)

-- the bytes that a word spells as two digits each, or as `-` where there are none
unfoldable pub hex_of : List ℕ → Option (List ℕ)
hex_of [] = None
hex_of (c ∷ []) = if c == 45 then Some [] else None
hex_of (a ∷ b ∷ rest) = pairs (a ∷ b ∷ rest)

-- eight bytes
abbrev pub is_setup : List ℕ → Bool
is_setup w = length w == 16 && is_some (hex_of w)

-- how bytes are spelled
abbrev pub hex_word : List ℕ → List ℕ
hex_word [] = codes "-"
hex_word (b ∷ bs) = encode_lower (b ∷ bs)
