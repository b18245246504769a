-- Fields of 32 bits in a list of bytes.
use Rattle.std.proofs.Common.{◌≡◌, ℕ, suc, ◌+◌, ◌*◌, ◌/◌, ◌%◌, ◌≤◌, ◌<◌, List, [], ◌∷◌, ◌++◌, length, drop, slice_index, refl, sym, ap, ◌∙◌, arith}
use Rattle.std.proofs.lemmas.List.{drop_more}
use Rattle.std.specs.List.{flat_map}
use Rattle.image_codec.specs.Image.{field_of, field_at, field_bytes, fields_of}

-- four bytes or more begin with a field
pub fields_of-more : (bytes : List ℕ) → 4 ≤ length bytes → fields_of bytes ≡ field_at bytes 0 ∷ fields_of (drop 4 bytes)
fields_of-more (a ∷ b ∷ c ∷ d ∷ bytes) h = refl
fields_of-more _ h = absurd (omega arith)

-- less than four bytes are no field
pub fields_of-few : (bytes : List ℕ) → length bytes < 4 → fields_of bytes ≡ []
fields_of-few (a ∷ b ∷ c ∷ d ∷ bytes) h = absurd (omega arith)
fields_of-few _ h = refl

-- the bytes of the number that four bytes are
pub field_bytes-field_of : (a b c d : ℕ) → a < 256 → b < 256 → c < 256 → d < 256 → field_bytes (field_of a b c d) ≡ a ∷ b ∷ c ∷ d ∷ []
field_bytes-field_of a b c d ha hb hc hd =
    let first : field_of a b c d % 256 ≡ a = omega arith in
    let second : field_of a b c d / 256 % 256 ≡ b = omega arith in
    let third : field_of a b c d / 65536 % 256 ≡ c = omega arith in
    let fourth : field_of a b c d / 16777216 % 256 ≡ d = omega arith in
    cc

-- the number that the bytes of a number are
pub field_of-field_bytes : (n : ℕ) → n < 4294967296 → field_of (n % 256) (n / 256 % 256) (n / 65536 % 256) (n / 16777216 % 256) ≡ n
field_of-field_bytes n h = omega arith

-- what follows a place is the byte there and what follows it
drop-front : (bytes : List ℕ) (at : ℕ) → at < length bytes → drop at bytes ≡ slice_index bytes at ∷ drop (at + 1) bytes
drop-front bytes at h = drop_more bytes at 0 h

-- what follows a place is the four bytes there and what follows them
pub drop-four : (bytes : List ℕ) (at : ℕ) → at + 4 ≤ length bytes
    → drop at bytes ≡ slice_index bytes at ∷ slice_index bytes (at + 1) ∷ slice_index bytes (at + 2) ∷ slice_index bytes (at + 3) ∷ drop (at + 4) bytes
drop-four bytes at h =
    let first = drop-front bytes at (omega arith) in
    let second = drop-front bytes (at + 1) (omega arith) in
    let third = drop-front bytes (at + 2) (omega arith) in
    let fourth = drop-front bytes (at + 3) (omega arith) in
    let two : at + 1 + 1 ≡ at + 2 = omega arith in
    let three : at + 2 + 1 ≡ at + 3 = omega arith in
    let four : at + 3 + 1 ≡ at + 4 = omega arith in
    rw (first, second, two, third, three, fourth, four) refl

-- what follows a place begins with the bytes of the field there
pub drop-field : (bytes : List ℕ) (at : ℕ) → ((i : ℕ) → slice_index bytes i < 256) → at + 4 ≤ length bytes
    → drop at bytes ≡ field_bytes (field_at bytes at) ++ drop (at + 4) bytes
drop-field bytes at small h =
    let spelled = field_bytes-field_of _ _ _ _ (small at) (small (at + 1)) (small (at + 2)) (small (at + 3)) in
    drop-four bytes at h ∙ sym (ap (λ (front : List ℕ). front ++ drop (at + 4) bytes) spelled)

-- the bytes of the fields that bytes are
pub field_bytes-fields_of : (bytes : List ℕ) → ((i : ℕ) → slice_index bytes i < 256) → length bytes % 4 ≡ 0
    → (flat_map field_bytes (fields_of bytes) ≡ bytes) × (4 * length (fields_of bytes) ≡ length bytes)
field_bytes-fields_of [] small h = (refl, refl)
field_bytes-fields_of (a ∷ b ∷ c ∷ d ∷ bytes) small h =
    let rest = field_bytes-fields_of bytes (λ i. small (suc (suc (suc (suc i))))) (omega arith) in
    let spelled = field_bytes-field_of a b c d (small 0) (small 1) (small 2) (small 3) in
    (ap (λ (front : List ℕ). front ++ flat_map field_bytes (fields_of bytes)) spelled ∙ ap (λ (tail : List ℕ). a ∷ b ∷ c ∷ d ∷ tail) rest.0, omega (arith, rest.1))
field_bytes-fields_of _ small h = absurd (omega arith)

-- the fields that the bytes of numbers are
pub fields_of-field_bytes : (words : List ℕ) → ((k : ℕ) → slice_index words k < 4294967296) → fields_of (flat_map field_bytes words) ≡ words
fields_of-field_bytes [] small = refl
fields_of-field_bytes (w ∷ words) small =
    let rest = fields_of-field_bytes words (λ k. small (suc k)) in
    let first = field_of-field_bytes w (small 0) in
    cc

-- how many bytes numbers are
pub length-field_bytes : (words : List ℕ) → length (flat_map field_bytes words) ≡ 4 * length words
length-field_bytes [] = refl
length-field_bytes (w ∷ words) = omega (arith, length-field_bytes words)
