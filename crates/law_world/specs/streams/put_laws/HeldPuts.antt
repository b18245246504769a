-- What stands in the buffers of a put is what the put asked to send, until its blocks are given back (EHCI 1.0, 3.5.4 and 4.10).
--     HoldsPuts d m puts         so it is of each put of the driver; `puts` tells their bytes by the number of the transfer
--     with_put puts t bytes      the same with these bytes of put t
--     puts_then d cmd puts       the same once the command was accepted: a put has the number of the newest transfer
--     told_before notes b i      how many bytes the first i qTDs from block b on have to send
--     piece_of notes b i bytes   of the bytes of a put whose first qTD stands in block b those from qTD number i on
--     first_moved notes b n bytes     of the bytes of a put of n qTDs from block b on those that were noted as moved: of each qTD's the first ones
use Rattle.std.specs.Prelude.{◌≡◌, ℕ, zero, suc, ◌+◌, ◌==◌, false, List, [], ◌++◌, length, take, drop, slice_get, Some, if◌then◌else◌}
use Rattle.usb_base.specs.declared.commands.Cmd.{Cmd}
use Rattle.usb_base.specs.declared.commands.Cmd.TheVariants as commands
use Rattle.word_mem.specs.Memory.{Mem}
use Rattle.drv_table.specs.declared.content.QtdNote.{QtdNote}
use Rattle.drv_table.specs.declared.content.Sort.TheVariants as sorts
use Rattle.drv_table.specs.declared.content.Transfer.{Transfer}
use Rattle.drv_table.specs.DriverContent.{DriverContent}
use Rattle.drv_table.specs.Harvests.{note_at}
use Rattle.law_world.specs.streams.put_laws.Held.{held_bytes}

pub record HoldsPuts (d : DriverContent) (m : Mem) (puts : ℕ → List ℕ) : Type 0 where
  pub each : (t : ℕ) (y : Transfer) → slice_get d.transfers t ≡ Some y → y.sort ≡ sorts.Put → y.released ≡ false → held_bytes m d.notes y.first y.qtds ≡ puts t

abbrev pub with_put : (ℕ → List ℕ) → ℕ → List ℕ → ℕ → List ℕ
with_put puts t bytes u = if u == t then bytes else puts u

abbrev pub puts_then : DriverContent → Cmd → (ℕ → List ℕ) → ℕ → List ℕ
puts_then d (commands.Put name bytes by) puts = with_put puts (length d.transfers) bytes
puts_then d _ puts = puts

-- ---- the pieces of a put

unfoldable pub told_before : List QtdNote → ℕ → ℕ → ℕ
told_before notes b zero = 0
told_before notes b (suc i) = (note_at notes b).told + told_before notes (note_at notes b).next i

abbrev pub piece_of : List QtdNote → ℕ → ℕ → List ℕ → List ℕ
piece_of notes b i bytes = drop (told_before notes b i) bytes

unfoldable pub first_moved : List QtdNote → ℕ → ℕ → List ℕ → List ℕ
first_moved notes b zero bytes = []
first_moved notes b (suc n) bytes = take (note_at notes b).moved bytes ++ first_moved notes (note_at notes b).next n (drop (note_at notes b).told bytes)
