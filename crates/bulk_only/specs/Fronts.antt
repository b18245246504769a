-- Which bytes may stand at the front of a command block (USB Mass Storage Class, Bulk-Only Transport 1.0, 5.1 and 6.2).
--     command_rows          what each of the 31 rows allows
--     allows row seen b     the row allows this byte, where these bytes stand before it
--     is_front bs           each of these bytes, of which the first 31 count, is allowed in its row
--     is_block bs           a whole command block stands at the front of these bytes
use Rattle.std.specs.Prelude.{ℕ, ◌+◌, ◌%◌, Bool, true, ◌&&◌, ◌||◌, ◌==◌, nat_le, List, [], ◌∷◌, length}
use Rattle.bulk_only.specs.declared.rows.BlockRow.{BlockRow}
use Rattle.bulk_only.specs.declared.rows.BlockRow.TheVariants.{Is, Any, DataLength, Flags, Code, Blocks}
use Rattle.bulk_only.specs.declared.rows.Seen.{Seen}
use Rattle.bulk_only.specs.Blocks.{code_of, operation_of}

abbrev pub command_rows : List BlockRow
command_rows =
    Is 85 ∷ Is 83 ∷ Is 66 ∷ Is 67
    ∷ Any ∷ Any ∷ Any ∷ Any  -- any tag
    ∷ Is 0 ∷ DataLength ∷ Is 0 ∷ Is 0  -- 512 times the number of blocks
    ∷ Flags ∷ Is 0 ∷ Is 10
    ∷ Code ∷ Is 0
    ∷ Any ∷ Any ∷ Any ∷ Any  -- any address
    ∷ Is 0
    ∷ Is 0 ∷ Blocks  -- the number of blocks
    ∷ Is 0
    ∷ Is 0 ∷ Is 0 ∷ Is 0 ∷ Is 0 ∷ Is 0 ∷ Is 0 ∷ []

-- before the first byte
abbrev pub nothing_seen : Seen
nothing_seen = record { half_blocks = 0; flags = 0 }

abbrev pub allows : BlockRow → Seen → ℕ → Bool
allows (Is n) _ b = b == n
allows Any _ _ = true
allows DataLength _ b = nat_le 2 b && nat_le b 80 && (b % 2 == 0)
allows Flags _ b = b == 0 || b == 128
allows Code seen b = b == code_of (operation_of seen.flags)
allows Blocks seen b = b + b == seen.half_blocks

-- what a row has to tell the later ones
abbrev pub sees : BlockRow → Seen → ℕ → Seen
sees DataLength seen b = record seen { half_blocks = b }
sees Flags seen b = record seen { flags = b }
sees _ seen _ = seen

abbrev pub fits_rows : List BlockRow → Seen → List ℕ → Bool
fits_rows [] _ _ = true
fits_rows (row ∷ rows) _ [] = true
fits_rows (row ∷ rows) seen (b ∷ bs) = allows row seen b && fits_rows rows (sees row seen b) bs

unfoldable pub is_front : List ℕ → Bool
is_front bs = fits_rows command_rows nothing_seen bs

abbrev pub is_block : List ℕ → Bool
is_block bs = nat_le 31 (length bs) && is_front bs
