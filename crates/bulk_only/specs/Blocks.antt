-- The command block of the bulk-only transport (USB Mass Storage Class, Bulk-Only Transport 1.0, 5.1), with the commands READ (10)
-- and WRITE (10) of SCSI block commands.
--     block_size            the bytes of a block of the disk
--     command_bytes c       the 31 bytes of a command block, row by row
--     command_of bs         what the rows of the first 31 of these bytes say
--     data_length c         the bytes that are transferred
--     is_within c           a command of 1 to 40 blocks, whose numbers fit their rows
use Rattle.std.specs.Prelude.{ℕ, ◌*◌, ◌^◌, Bool, ◌&&◌, ◌==◌, nat_le, nat_lt, List, [], ◌∷◌, ◌++◌, get_or, if◌then◌else◌}
use Rattle.std.specs.Int.{to_le_bytes, to_be_bytes, from_le_bytes, from_be_bytes, w16, w32}
use Rattle.bulk_only.specs.declared.command_block.CommandBlock.{CommandBlock}
use Rattle.bulk_only.specs.declared.command_block.Operation.{Operation}
use Rattle.bulk_only.specs.declared.command_block.Operation.TheVariants.{Read, Write}

abbrev pub block_size : ℕ
block_size = 512

-- bmCBWFlags: bit 7 is 1 where the data go to the host
abbrev pub flags_of : Operation → ℕ
flags_of Read = 128
flags_of Write = 0

-- READ (10) is 28h, WRITE (10) is 2Ah
abbrev pub code_of : Operation → ℕ
code_of Read = 40
code_of Write = 42

abbrev pub data_length : CommandBlock → ℕ
data_length c = block_size * c.blocks

abbrev pub command_bytes : CommandBlock → List ℕ
command_bytes c =
    85 ∷ 83 ∷ 66 ∷ 67 ∷ []  -- dCBWSignature, 43425355h with the low byte first
    ++ (to_le_bytes w32 c.tag  -- dCBWTag
    ++ (to_le_bytes w32 (data_length c)  -- dCBWDataTransferLength
    ++ (flags_of c.operation ∷ 0 ∷ 10 ∷ []  -- bmCBWFlags, bCBWLUN, bCBWCBLength
    ++ (code_of c.operation ∷ 0 ∷ []  -- the operation code, and no flags
    ++ (to_be_bytes w32 c.lba  -- the logical block address, with the high byte first
    ++ (0 ∷ []  -- the group number
    ++ (to_be_bytes w16 c.blocks  -- the transfer length in blocks
    ++ (0 ∷ []  -- the control byte
    ++ (0 ∷ 0 ∷ 0 ∷ 0 ∷ 0 ∷ 0 ∷ [])))))))))  -- what CBWCB has more than the command

-- the byte in a row
abbrev pub byte : List ℕ → ℕ → ℕ
byte bs row = get_or bs row 0

abbrev pub operation_of : ℕ → Operation
operation_of flags = if flags == 128 then Read else Write

abbrev pub command_of : List ℕ → CommandBlock
command_of bs = record {
  tag = from_le_bytes w32 (byte bs 4 ∷ byte bs 5 ∷ byte bs 6 ∷ byte bs 7 ∷ []);
  operation = operation_of (byte bs 12);
  lba = from_be_bytes w32 (byte bs 17 ∷ byte bs 18 ∷ byte bs 19 ∷ byte bs 20 ∷ []);
  blocks = from_be_bytes w16 (byte bs 22 ∷ byte bs 23 ∷ []);
}

abbrev pub is_within : CommandBlock → Bool
is_within c = nat_lt c.tag (2 ^ 32) && nat_lt c.lba (2 ^ 32) && nat_le 1 c.blocks && nat_le c.blocks 40
