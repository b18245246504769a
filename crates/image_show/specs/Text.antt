-- Numbers and lines as text, and the line of a refusal.
use Rattle.std.specs.Prelude.{ℕ, zero, suc, ◌+◌, ◌/◌, ◌%◌, ◌^◌, nat_lt, if◌then◌else◌, List, [], ◌∷◌, ◌++◌, codes, decimal}
use Rattle.image_codec.specs.declared.image.ImageWhy.{ImageWhy}
use Rattle.image_codec.specs.declared.image.ImageWhy.TheVariants.{Magic, Version, Alignment, Length}
use Rattle.image_codec.specs.declared.image.Refusal.{Refusal}

-- a hexadecimal digit, in lower case
abbrev pub hex_digit : ℕ → ℕ
hex_digit d = if nat_lt d 10 then 48 + d else 87 + d

-- the last k hexadecimal digits of a number
abbrev pub hex : ℕ → ℕ → List ℕ
hex zero n = []
hex (suc k) n = hex_digit (n / 16 ^ k % 16) ∷ hex k n

-- the text of a line
abbrev pub line : List ℕ → List ℕ
line text = text ++ 10 ∷ []

abbrev pub why_text : ImageWhy → List ℕ
why_text Magic = codes "magic"
why_text Version = codes "version"
why_text Alignment = codes "alignment"
why_text Length = codes "length"

-- the line that says why bytes are no image
unfoldable pub refusal_line : Refusal → List ℕ
refusal_line r = line (codes "offset " ++ decimal r.offset ++ codes ": " ++ why_text r.why)
