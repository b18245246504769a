-- A disk of blocks of 512 bytes that obeys commands of the bulk-only transport (USB Mass Storage Class, Bulk-Only Transport 1.0, 5.3
-- and 6.7).
--     DiskContent           the bytes of its blocks, the bytes of a command that isn't whole, and the replies that wait
--     opening n             the bytes of n blocks as they are first: byte j of block i is (i + j) mod 256
--     passes bs c           the blocks of the command lie within the disk
--     after_command bs c    the bytes of the disk after the command
--     answer bs c           what the disk says to it, packet by packet
--     contents bs cs        the bytes of the disk after these commands, one after the other
--     answers bs cs         what it says to each of them
--     disk_took bs d        the disk after these bytes
use Rattle.std.specs.Prelude.{ℕ, zero, suc, ◌+◌, ◌*◌, ◌/◌, ◌%◌, Bool, ◌&&◌, nat_le, List, [], ◌∷◌, ◌++◌, length, take, drop, replicate, Option, Some, None, if◌then◌else◌}
use Rattle.bulk_only.specs.declared.command_block.CommandBlock.{CommandBlock}
use Rattle.bulk_only.specs.declared.command_block.Operation.{Operation}
use Rattle.bulk_only.specs.declared.command_block.Operation.TheVariants.{Read, Write}
use Rattle.bulk_only.specs.declared.status_block.CommandStatus.TheVariants.{Passed, Failed}
use Rattle.bulk_only.specs.Blocks.{block_size, data_length}
use Rattle.bulk_only.specs.Commands.{DiskCommand, commands_of, rest_of, could_go_on}
use Rattle.bulk_only.specs.Replies.{Waiting, bytes_in}
use Rattle.bulk_only.specs.Status.{status_bytes}

-- the disk without the bytes of a command that isn't whole
pub record Stored : Type 0 where
  pub bytes : List ℕ
  pub replies : Waiting

pub record DiskContent : Type 0 where
  pub stored : Stored
  pub begun : List ℕ

-- byte k of the disk as it is first
abbrev pub opening_byte : ℕ → ℕ
opening_byte k = (k / 512 + k % 512) % 256

-- n bytes from byte k on
abbrev pub opening_from : ℕ → ℕ → List ℕ
opening_from k zero = []
opening_from k (suc n) = opening_byte k ∷ opening_from (suc k) n

unfoldable pub opening : ℕ → List ℕ
opening blocks = opening_from 0 (block_size * blocks)

abbrev pub opening_disk : ℕ → ℕ → DiskContent
opening_disk blocks room = record {
  stored = record { bytes = opening blocks; replies = record { packets = []; room = room } };
  begun = [];
}

-- the bytes from place `at` on become these
abbrev pub overwritten : ℕ → List ℕ → List ℕ → List ℕ
overwritten at new old = take at old ++ (new ++ drop (at + length new) old)

-- the block of this number
abbrev pub block_at : List ℕ → ℕ → List ℕ
block_at bytes lba = take block_size (drop (block_size * lba) bytes)

-- the same, if there is one
abbrev pub shown_block : List ℕ → ℕ → Option (List ℕ)
shown_block bytes lba = if nat_le (block_size * (lba + 1)) (length bytes) then Some (block_at bytes lba) else None

-- so many blocks from this one on
abbrev pub blocks_from : List ℕ → ℕ → ℕ → List (List ℕ)
blocks_from bytes lba zero = []
blocks_from bytes lba (suc n) = block_at bytes lba ∷ blocks_from bytes (suc lba) n

abbrev pub zero_blocks : ℕ → List (List ℕ)
zero_blocks n = replicate n (replicate block_size 0)

abbrev pub passes : List ℕ → CommandBlock → Bool
passes bytes c = nat_le (block_size * (c.lba + c.blocks)) (length bytes)

-- the data of a read
abbrev pub data_packets : Operation → Bool → List ℕ → CommandBlock → List (List ℕ)
data_packets Write _ _ _ = []
data_packets Read passed bytes c = if passed then blocks_from bytes c.lba c.blocks else zero_blocks c.blocks

-- a command that fails has moved nothing that counts: the residue is its whole length
abbrev pub status_packet : Bool → CommandBlock → List ℕ
status_packet passed c = if passed
    then status_bytes (record { tag = c.tag; residue = 0; status = Passed })
    else status_bytes (record { tag = c.tag; residue = data_length c; status = Failed })

abbrev pub answer : List ℕ → DiskCommand → List (List ℕ)
answer bytes c =
    data_packets c.block.operation (passes bytes c.block) bytes c.block ++ status_packet (passes bytes c.block) c.block ∷ []

-- a write is done where its blocks lie within the disk; a read changes nothing
abbrev pub stores : Operation → Bool → ℕ → List ℕ → List ℕ → List ℕ
stores Read _ _ _ bytes = bytes
stores Write passed at new bytes = if passed then overwritten at new bytes else bytes

abbrev pub after_command : List ℕ → DiskCommand → List ℕ
after_command bytes c = stores c.block.operation (passes bytes c.block) (block_size * c.block.lba) c.bytes bytes

unfoldable pub contents : List ℕ → List DiskCommand → List ℕ
contents bytes [] = bytes
contents bytes (c ∷ cs) = contents (after_command bytes c) cs

unfoldable pub answers : List ℕ → List DiskCommand → List (List ℕ)
answers bytes [] = []
answers bytes (c ∷ cs) = answer bytes c ++ answers (after_command bytes c) cs

-- so many bytes the disk says to a command
abbrev pub sent_by : Operation → ℕ → ℕ
sent_by Read n = n
sent_by Write _ = 0

abbrev pub reply_length : CommandBlock → ℕ
reply_length c = sent_by c.operation (data_length c) + 13

unfoldable pub reply_lengths : List DiskCommand → ℕ
reply_lengths [] = 0
reply_lengths (c ∷ cs) = reply_length c.block + reply_lengths cs

-- the replies that wait and those to these commands fit the room
abbrev pub fits : List DiskCommand → Waiting → Bool
fits cs w = nat_le (bytes_in w.packets + reply_lengths cs) w.room

abbrev pub with_packets : List (List ℕ) → Waiting → Waiting
with_packets ps w = record w { packets = w.packets ++ ps }

-- after one command
abbrev pub obeyed_one : DiskCommand → Stored → Stored
obeyed_one c s = record {
  bytes = after_command s.bytes c;
  replies = with_packets (answer s.bytes c) s.replies;
}

abbrev pub obeyed : List DiskCommand → Stored → Stored
obeyed cs s = record {
  bytes = contents s.bytes cs;
  replies = with_packets (answers s.bytes cs) s.replies;
}

-- bytes are taken where they could go on as commands and the replies to them fit
abbrev pub takes : List ℕ → DiskContent → Bool
takes new d = could_go_on (d.begun ++ new) && fits (commands_of (d.begun ++ new)) d.stored.replies

abbrev pub disk_took : List ℕ → DiskContent → DiskContent
disk_took new d = if takes new d
    then record { stored = obeyed (commands_of (d.begun ++ new)) d.stored; begun = rest_of (d.begun ++ new) }
    else d

-- the first reply was sent
abbrev pub disk_sent : DiskContent → DiskContent
disk_sent d = record d { stored = record d.stored { replies = record d.stored.replies { packets = drop 1 d.stored.replies.packets } } }

-- a reset forgets a command that isn't whole and the replies (3.1)
abbrev pub disk_reset : DiskContent → DiskContent
disk_reset d = record d {
  stored = record d.stored { replies = record d.stored.replies { packets = [] } };
  begun = [];
}
