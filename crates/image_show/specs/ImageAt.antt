-- The bytes of an image whose words begin at an address of their own, and those of any image. The format is this program's: no standard
-- has one.
--
--   offset 0   `EHCI`               offset 12  PERIODICLISTBASE
--   offset 4   version 2            offset 16  ASYNCLISTADDR
--   offset 8   FRINDEX              offset 20  the byte address of the first word
--                                   offset 24  the words
--
--     IsAlignedAt i             the fields keep their ranges and alignments
--     checks_at bytes           what such an image keeps, in the order in which it is tested
--     any_fault bytes           why bytes are no image of either form; none for those of an image
--     any_image bytes           the image that bytes spell: words of the first form begin at address 0
use Rattle.std.specs.Prelude.{◌≡◌, ℕ, ◌+◌, ◌-◌, ◌*◌, ◌/◌, ◌%◌, ◌≤◌, ◌<◌, Bool, ◌&&◌, ◌==◌, nat_le, nat_lt, if◌then◌else◌, min, List, [], ◌∷◌, length, drop, slice_index, Option, Some, None, Result, Ok, Err}
use Rattle.usb_base.specs.Limits.{most_memory}
use Rattle.image_codec.specs.declared.image.Image.{Image}
use Rattle.image_codec.specs.declared.image.ImageWhy.{ImageWhy}
use Rattle.image_codec.specs.declared.image.ImageWhy.TheVariants.{Magic, Version, Alignment, Length}
use Rattle.image_codec.specs.declared.image.ImageError.{ImageError}
use Rattle.image_codec.specs.declared.image.ImageError.TheVariants.{Refused, Memory}
use Rattle.image_codec.specs.declared.image.Refusal.{Refusal}
use Rattle.image_codec.specs.Image.{Check, field_at, fields_of, first_refusal, image_fault, image_of, is_word_count}
use Rattle.image_show.specs.declared.image_at.ImageAt.{ImageAt}

pub record IsAlignedAt (i : ImageAt) : Type 0 where
  pub frindex : i.frindex ≤ 16383
  pub list_base : i.list_base % 4096 ≡ 0
  pub async_at : i.async_at % 32 ≡ 0
  pub base : i.base % 4096 ≡ 0
  pub whole : length i.words % 1024 ≡ 0
  pub least : 1024 ≤ length i.words
  pub most : length i.words ≤ most_memory
  pub ends : i.base + 4 * length i.words < 4294967296

-- an image of the first form
abbrev pub from_start : Image → ImageAt
from_start i = record { frindex = i.frindex; list_base = i.list_base; async_at = i.async_at; base = 0; words = i.words }

abbrev pub check : Bool → ℕ → ImageWhy → Check
check passes offset why = record { passes = passes; refusal = record { offset = offset; why = why } }

-- how many bytes stand behind a header
abbrev pub behind : List ℕ → ℕ
behind bytes = length bytes - 24

-- the last check's offset is the number of bytes, up to that of the longest image
abbrev pub checks_at : List ℕ → List Check
checks_at bytes =
    check (nat_le 24 (length bytes)) (length bytes) Length
    ∷ check (slice_index bytes 0 == 69 && slice_index bytes 1 == 72 && slice_index bytes 2 == 67 && slice_index bytes 3 == 73) 0 Magic
    ∷ check (field_at bytes 4 == 2) 4 Version
    ∷ check (nat_le (field_at bytes 8) 16383) 8 Alignment
    ∷ check (field_at bytes 12 % 4096 == 0) 12 Alignment
    ∷ check (field_at bytes 16 % 32 == 0) 16 Alignment
    ∷ check (field_at bytes 20 % 4096 == 0 && nat_lt (field_at bytes 20 + behind bytes) 4294967296) 20 Alignment
    ∷ check (behind bytes % 4 == 0 && is_word_count (behind bytes / 4)) (min (length bytes) 1048600) Length
    ∷ []

-- bytes of the second form, if of any
abbrev pub is_second : List ℕ → Bool
is_second bytes = nat_le 24 (length bytes) && field_at bytes 4 == 2

abbrev pub any_fault : List ℕ → Option Refusal
any_fault bytes = if is_second bytes then first_refusal (checks_at bytes) else image_fault bytes

abbrev pub second_image : List ℕ → ImageAt
second_image bytes = record {
  frindex = field_at bytes 8;
  list_base = field_at bytes 12;
  async_at = field_at bytes 16;
  base = field_at bytes 20;
  words = fields_of (drop 24 bytes);
}

abbrev pub any_image : List ℕ → ImageAt
any_image bytes = if is_second bytes then second_image bytes else from_start (image_of bytes)

-- what an answer refuses
abbrev pub any_refusal : Result ImageAt ImageError → Option Refusal
any_refusal (Ok i) = None
any_refusal (Err (Refused offset why)) = Some (record { offset = offset; why = why })
any_refusal (Err (Memory m)) = None
