-- Laws of a disk over all bytes (USB Mass Storage Class, Bulk-Only Transport 1.0, 5.3 and 6.7).
--     is_command c          a command of 1 to 40 blocks, with just the data that its block tells
--     stream cs             the bytes of commands, one after the other
--     is_part bs            a front part of a command, which isn't whole
--     grown old new         the replies to less are a front part of those to more
use Rattle.std.specs.Prelude.{◌≡◌, ℕ, ◌<◌, Bool, true, false, ◌&&◌, ◌==◌, List, [], ◌∷◌, ◌++◌, length, take, Option, Some, None}
use Rattle.bulk_only.specs.declared.command_block.CommandBlock.{CommandBlock}
use Rattle.bulk_only.specs.Blocks.{is_within, command_bytes}
use Rattle.bulk_only.specs.Commands.{DiskCommand, bytes_of, block_of, follows, whole_block, commands_of, rest_of}
use Rattle.bulk_only.specs.Contents.{DiskContent, contents, answers, fits, takes, disk_took}
use Rattle.bulk_only.specs.Fronts.{is_front}

abbrev pub is_command : DiskCommand → Bool
is_command c = is_within c.block && (length c.bytes == follows c.block)

abbrev pub are_commands : List DiskCommand → Bool
are_commands [] = true
are_commands (c ∷ cs) = is_command c && are_commands cs

abbrev pub stream : List DiskCommand → List ℕ
stream [] = []
stream (c ∷ cs) = bytes_of c ++ stream cs

abbrev pub is_none : Option CommandBlock → Bool
is_none None = true
is_none (Some _) = false

abbrev pub is_part : List ℕ → Bool
is_part bs = is_none (whole_block bs) && is_front bs

-- a command block is read as what was written
abbrev pub BlocksAreReadBack : Type 0
BlocksAreReadBack = (c : CommandBlock) (more : List ℕ) → is_within c ≡ true → block_of (command_bytes c ++ more) ≡ Some c

-- bytes that are commands and a front part of one more are just these commands
abbrev pub CommandsAreFound : Type 0
CommandsAreFound = (cs : List DiskCommand) (part : List ℕ) → are_commands cs ≡ true → is_part part ≡ true
    → (commands_of (stream cs ++ part) ≡ cs) × (rest_of (stream cs ++ part) ≡ part)

-- What a disk is after commands and a front part: each command is obeyed once, in their order.
pub record Obeyed (cs : List DiskCommand) (part : List ℕ) (old new : DiskContent) : Type 0 where
  pub bytes : new.stored.bytes ≡ contents old.stored.bytes cs
  pub replies : new.stored.replies.packets ≡ old.stored.replies.packets ++ answers old.stored.bytes cs
  pub room : new.stored.replies.room ≡ old.stored.replies.room
  pub begun : new.begun ≡ part

abbrev pub CommandsAreObeyed : Type 0
CommandsAreObeyed = (cs : List DiskCommand) (part : List ℕ) (d : DiskContent) → are_commands cs ≡ true → is_part part ≡ true
    → d.begun ≡ [] → fits cs d.stored.replies ≡ true → Obeyed cs part d (disk_took (stream cs ++ part) d)

-- each front part of a command, which isn't whole, is one
abbrev pub FrontsAreParts : Type 0
FrontsAreParts = (c : DiskCommand) (n : ℕ) → is_command c ≡ true → n < length (bytes_of c) → is_part (take n (bytes_of c)) ≡ true

-- however bytes are cut, the disk is the same
abbrev pub BytesAreCutAnywhere : Type 0
BytesAreCutAnywhere = (xs ys : List ℕ) (d : DiskContent) → takes (xs ++ ys) d ≡ true → disk_took ys (disk_took xs d) ≡ disk_took (xs ++ ys) d

-- more bytes make more replies, of which the replies to fewer are a front part
abbrev pub RepliesGrow : Type 0
RepliesGrow = (xs ys : List ℕ) (d : DiskContent) → takes (xs ++ ys) d ≡ true
    → (more : List (List ℕ)) × ((disk_took (xs ++ ys) d).stored.replies.packets ≡ (disk_took xs d).stored.replies.packets ++ more)
