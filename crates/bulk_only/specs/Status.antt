-- The status block (USB Mass Storage Class, Bulk-Only Transport 1.0, 5.2 and 6.3).
--     status_bytes s        its 13 bytes, row by row
--     status_of bs          the status block that these bytes are, if they are one that a disk sends
use Rattle.std.specs.Prelude.{ℕ, Bool, ◌&&◌, ◌==◌, nat_le, List, [], ◌∷◌, ◌++◌, length, Option, Some, None, if◌then◌else◌}
use Rattle.std.specs.Int.{to_le_bytes, from_le_bytes, w32}
use Rattle.bulk_only.specs.declared.status_block.CommandStatus.{CommandStatus}
use Rattle.bulk_only.specs.declared.status_block.CommandStatus.TheVariants.{Passed, Failed}
use Rattle.bulk_only.specs.declared.status_block.StatusBlock.{StatusBlock}
use Rattle.bulk_only.specs.Blocks.{byte}

-- bCSWStatus
abbrev pub status_number : CommandStatus → ℕ
status_number Passed = 0
status_number Failed = 1

abbrev pub status_bytes : StatusBlock → List ℕ
status_bytes s =
    85 ∷ 83 ∷ 66 ∷ 83 ∷ []  -- dCSWSignature, 53425355h with the low byte first
    ++ (to_le_bytes w32 s.tag  -- dCSWTag
    ++ (to_le_bytes w32 s.residue  -- dCSWDataResidue
    ++ (status_number s.status ∷ [])))

abbrev pub is_signed : List ℕ → Bool
is_signed bs = (byte bs 0 == 85) && (byte bs 1 == 83) && (byte bs 2 == 66) && (byte bs 3 == 83)

abbrev pub status_of : List ℕ → Option StatusBlock
status_of bs = if (length bs == 13) && is_signed bs && nat_le (byte bs 12) 1
    then Some (record {
      tag = from_le_bytes w32 (byte bs 4 ∷ byte bs 5 ∷ byte bs 6 ∷ byte bs 7 ∷ []);
      residue = from_le_bytes w32 (byte bs 8 ∷ byte bs 9 ∷ byte bs 10 ∷ byte bs 11 ∷ []);
      status = if byte bs 12 == 0 then Passed else Failed;
    })
    else None
