-- Bytes as commands, one after the other: a command block, and behind that of a write its data (USB Mass Storage Class, Bulk-Only
-- Transport 1.0, 5.3).
--     DiskCommand           a command block, with the data behind it
--     bytes_of c            its bytes
--     first_command bs      the whole command at the front of these bytes, if there is one
--     commands_of bs        the whole commands at the front of these bytes, in their order
--     rest_of bs            what stands behind them
--     could_go_on bs        these bytes are commands and the front of one more
use Rattle.std.specs.Prelude.{ℕ, zero, suc, ◌+◌, Bool, nat_le, List, [], ◌∷◌, ◌++◌, length, take, drop, Option, Some, None, option_map, if◌then◌else◌}
use Rattle.bulk_only.specs.declared.command_block.CommandBlock.{CommandBlock}
use Rattle.bulk_only.specs.declared.command_block.Operation.{Operation}
use Rattle.bulk_only.specs.declared.command_block.Operation.TheVariants.{Read, Write}
use Rattle.bulk_only.specs.Blocks.{command_bytes, command_of, data_length}
use Rattle.bulk_only.specs.Fronts.{is_block, is_front}

pub record DiskCommand : Type 0 where
  pub block : CommandBlock
  pub bytes : List ℕ  -- the data of a write; none behind a read

abbrev pub bytes_of : DiskCommand → List ℕ
bytes_of c = command_bytes c.block ++ c.bytes

-- so many bytes follow a command block on its way to the disk
abbrev pub written_by : Operation → ℕ → ℕ
written_by Read _ = 0
written_by Write n = n

abbrev pub follows : CommandBlock → ℕ
follows c = written_by c.operation (data_length c)

-- a command block with its data behind it
abbrev pub size_of : CommandBlock → ℕ
size_of c = 31 + follows c

-- the command block at the front of these bytes, if there is one
unfoldable pub block_of : List ℕ → Option CommandBlock
block_of bs = if is_block bs then Some (command_of bs) else None

-- a command block, if its data are among so many bytes too
abbrev pub with_room : ℕ → Option CommandBlock → Option CommandBlock
with_room n None = None
with_room n (Some c) = if nat_le (size_of c) n then Some c else None

-- the command block at the front of these bytes, if its data are there too
abbrev pub whole_block : List ℕ → Option CommandBlock
whole_block bs = with_room (length bs) (block_of bs)

abbrev pub with_data : List ℕ → CommandBlock → DiskCommand
with_data bs c = record { block = c; bytes = take (follows c) (drop 31 bs) }

unfoldable pub first_command : List ℕ → Option DiskCommand
first_command bs = option_map (with_data bs) (whole_block bs)

-- at most so many commands
unfoldable pub commands_in : ℕ → List ℕ → List DiskCommand
commands_in zero bs = []
commands_in (suc n) bs = elim (first_command bs) [ None ↦ [] | Some c ↦ c ∷ commands_in n (drop (size_of c.block) bs) ]

unfoldable pub rest_in : ℕ → List ℕ → List ℕ
rest_in zero bs = bs
rest_in (suc n) bs = elim (first_command bs) [ None ↦ bs | Some c ↦ rest_in n (drop (size_of c.block) bs) ]

-- a command has 31 bytes at least, so there are no more commands than bytes
abbrev pub commands_of : List ℕ → List DiskCommand
commands_of bs = commands_in (length bs) bs

abbrev pub rest_of : List ℕ → List ℕ
rest_of bs = rest_in (length bs) bs

abbrev pub could_go_on : List ℕ → Bool
could_go_on bs = is_front (rest_of bs)
