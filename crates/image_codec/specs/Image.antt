-- The bytes of an image. The format is this profile's: no standard has one.
--
--   offset 0   `EHCI`               offset 12  PERIODICLISTBASE
--   offset 4   version 1            offset 16  ASYNCLISTADDR
--   offset 8   FRINDEX              offset 20  number of words
--                                   offset 24  the words
use Rattle.std.specs.Prelude.{if◌then◌else◌, ◌≡◌, ℕ, ◌+◌, ◌*◌, ◌/◌, ◌%◌, ◌<◌, ◌≤◌, Bool, ◌&&◌, ◌==◌, nat_le, min, List, [], ◌∷◌, ◌++◌, length, drop, slice_index, Option, Some, None, Result, Ok, Err}
use Rattle.std.specs.List.{flat_map}
use Rattle.usb_base.specs.Limits.{most_memory}
use Rattle.image_codec.specs.declared.image.Image.{Image}
use Rattle.image_codec.specs.declared.image.ImageWhy.{ImageWhy}
use Rattle.image_codec.specs.declared.image.ImageWhy.TheVariants.{Magic, Version, Alignment, Length}
use Rattle.image_codec.specs.declared.image.Refusal.{Refusal}
use Rattle.image_codec.specs.declared.image.ImageError.{ImageError}
use Rattle.image_codec.specs.declared.image.ImageError.TheVariants.{Refused, Memory}

-- ---- fields of 32 bits, the lowest byte first

-- the number that four bytes are: their sum, each times its place
abbrev pub field_of : ℕ → ℕ → ℕ → ℕ → ℕ
field_of a b c d = a * 1 + b * 256 + c * 65536 + d * 16777216

-- the field at a byte offset
abbrev pub field_at : List ℕ → ℕ → ℕ
field_at bytes at = field_of (slice_index bytes at) (slice_index bytes (at + 1)) (slice_index bytes (at + 2)) (slice_index bytes (at + 3))

-- the fields that bytes are, one after the other
abbrev pub fields_of : List ℕ → List ℕ
fields_of (a ∷ b ∷ c ∷ d ∷ bytes) = field_of a b c d ∷ fields_of bytes
fields_of _ = []

-- the four bytes of a field
abbrev pub field_bytes : ℕ → List ℕ
field_bytes n = n % 256 ∷ n / 256 % 256 ∷ n / 65536 % 256 ∷ n / 16777216 % 256 ∷ []

-- ---- images

-- `EHCI`
abbrev pub magic : List ℕ
magic = 69 ∷ 72 ∷ 67 ∷ 73 ∷ []

-- the bytes before the words
unfoldable pub header_bytes : Image → List ℕ
header_bytes i = magic ++ (field_bytes 1 ++ (field_bytes i.frindex ++ (field_bytes i.list_base ++ (field_bytes i.async_at ++ field_bytes (length i.words)))))

-- the bytes of an image
abbrev pub image_bytes : Image → List ℕ
image_bytes i = header_bytes i ++ flat_map field_bytes i.words

-- a number of words that an image may have
abbrev pub is_word_count : ℕ → Bool
is_word_count n = n % 1024 == 0 && nat_le 1024 n && nat_le n most_memory

-- the fields keep their ranges and alignments
pub record IsAligned (i : Image) : Type 0 where
  pub frindex : i.frindex ≤ 16383
  pub list_base : i.list_base % 4096 ≡ 0
  pub async_at : i.async_at % 32 ≡ 0
  pub whole : length i.words % 1024 ≡ 0
  pub least : 1024 ≤ length i.words
  pub most : length i.words ≤ most_memory

-- bytes are those of an image
pub record IsImage (bytes : List ℕ) (i : Image) : Type 0 where
  pub bytes_are : image_bytes i ≡ bytes
  pub aligned : IsAligned i

-- ---- refusals

-- a refusal, if bytes pass no test of it
pub record Check : Type 0 where
  pub passes : Bool
  pub refusal : Refusal

abbrev check : Bool → ℕ → ImageWhy → Check
check passes offset why = record { passes = passes; refusal = record { offset = offset; why = why } }

-- what an image keeps, in the order in which it is tested
abbrev pub checks : List ℕ → List Check
checks bytes =
    check (nat_le 24 (length bytes)) (length bytes) Length
    ∷ check (slice_index bytes 0 == 69 && slice_index bytes 1 == 72 && slice_index bytes 2 == 67 && slice_index bytes 3 == 73) 0 Magic
    ∷ check (field_at bytes 4 == 1) 4 Version
    ∷ check (nat_le (field_at bytes 8) 16383) 8 Alignment
    ∷ check (field_at bytes 12 % 4096 == 0) 12 Alignment
    ∷ check (field_at bytes 16 % 32 == 0) 16 Alignment
    ∷ check (is_word_count (field_at bytes 20)) 20 Alignment
    ∷ check (length bytes == 24 + 4 * field_at bytes 20) (min (length bytes) (24 + 4 * field_at bytes 20)) Length
    ∷ []

-- the refusal of the first check that isn't passed
abbrev pub first_refusal : List Check → Option Refusal
first_refusal [] = None
first_refusal (c ∷ cs) = if c.passes then first_refusal cs else Some c.refusal

-- why bytes are no image; none for the bytes of an image
abbrev pub image_fault : List ℕ → Option Refusal
image_fault bytes = first_refusal (checks bytes)

-- the image that bytes spell
abbrev pub image_of : List ℕ → Image
image_of bytes = record {
  frindex = field_at bytes 8;
  list_base = field_at bytes 12;
  async_at = field_at bytes 16;
  words = fields_of (drop 24 bytes);
}

-- what an answer refuses
abbrev pub refusal_of : Result Image ImageError → Option Refusal
refusal_of (Ok i) = None
refusal_of (Err (Refused offset why)) = Some (record { offset = offset; why = why })
refusal_of (Err (Memory m)) = None

-- the fields have 32 bits
pub record HasFields (i : Image) : Type 0 where
  pub list_base : i.list_base < 4294967296
  pub async_at : i.async_at < 4294967296
  pub words : (k : ℕ) → slice_index i.words k < 4294967296
