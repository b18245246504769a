-- Commands and a disk of one block for worked rows.
use Rattle.std.specs.Prelude.{ℕ, zero, suc, ◌%◌, List, [], ◌∷◌, ◌++◌, take, replicate}
use Rattle.bulk_only.specs.declared.command_block.CommandBlock.{CommandBlock}
use Rattle.bulk_only.specs.declared.command_block.Operation.TheVariants.{Read, Write}
use Rattle.bulk_only.specs.declared.status_block.CommandStatus.TheVariants.{Passed, Failed}
use Rattle.bulk_only.specs.Commands.{DiskCommand, bytes_of}
use Rattle.bulk_only.specs.Contents.{DiskContent}
use Rattle.bulk_only.specs.Laws.{stream}
use Rattle.bulk_only.specs.Status.{status_bytes}

-- n bytes, each one more than the one before, from this one on
abbrev pub filled : ℕ → ℕ → List ℕ
filled byte zero = []
filled byte (suc n) = byte % 256 ∷ filled (suc byte) n

-- the first command of a disk: block 3 is written
abbrev pub write_block_3 : CommandBlock
write_block_3 = record { tag = 1; operation = Write; lba = 3; blocks = 1 }

-- on a disk of one block: it is written, read, and one behind it is read
abbrev pub write_one : DiskCommand
write_one = record { block = record { tag = 1; operation = Write; lba = 0; blocks = 1 }; bytes = filled 7 512 }

abbrev pub read_one : DiskCommand
read_one = record { block = record { tag = 2; operation = Read; lba = 0; blocks = 1 }; bytes = [] }

abbrev pub read_behind : DiskCommand
read_behind = record { block = record { tag = 3; operation = Read; lba = 1; blocks = 1 }; bytes = [] }

abbrev pub three : List DiskCommand
three = write_one ∷ read_one ∷ read_behind ∷ []

-- twenty bytes of a fourth command
abbrev pub begun : List ℕ
begun = take 20 (bytes_of write_one)

abbrev pub all_bytes : List ℕ
all_bytes = stream three ++ begun

abbrev pub passed : ℕ → List ℕ
passed tag = status_bytes (record { tag = tag; residue = 0; status = Passed })

-- their answers: 13, 525 and 525 bytes
abbrev pub three_answers : List (List ℕ)
three_answers = passed 1 ∷ filled 7 512 ∷ passed 2 ∷ replicate 512 0 ∷ status_bytes (record { tag = 3; residue = 512; status = Failed }) ∷ []

-- a disk of one block of zeros, with room for so many bytes of replies
abbrev pub small_disk : ℕ → DiskContent
small_disk room = record { stored = record { bytes = replicate 512 0; replies = record { packets = []; room = room } }; begun = [] }
