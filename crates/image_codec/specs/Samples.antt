-- Bytes of worked values.
--     header version frindex list_base async_at words    the fields of a header behind its magic
use Rattle.std.specs.Prelude.{ℕ, List, ◌++◌}
use Rattle.image_codec.specs.Image.{field_bytes}

abbrev pub header : ℕ → ℕ → ℕ → ℕ → ℕ → List ℕ
header version frindex list_base async_at words =
    field_bytes version ++ (field_bytes frindex ++ (field_bytes list_base ++ (field_bytes async_at ++ field_bytes words)))
