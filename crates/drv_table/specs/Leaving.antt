-- The leaving work, in its order (EHCI 1.0, 2.3.1, 2.3.2, 2.3.4, 4.8.2): what is owed to a stalled endpoint, what is to be given back or
-- unlinked, and the doorbell with the readings for which it waits.
use Rattle.std.specs.Prelude.{ℕ, Bool, true, false, nat_lt, length, slice_get, Option, Some, if◌then◌else◌, None, option_map}
use Rattle.op_registers.specs.declared.register.Register.TheVariants.{Status}
use Rattle.op_registers.specs.Events.{has}
use Rattle.op_registers.specs.RegisterFile.{RegisterFile}
use Rattle.op_registers.specs.Table.{word_of}
use Rattle.drv_chains.specs.Boundary.{is_seen}
use Rattle.drv_periodic_table.specs.declared.content.Removal.{Removal}
use Rattle.drv_table.specs.declared.content.Bell.{Bell}
use Rattle.drv_table.specs.declared.content.Bell.TheVariants as bells
use Rattle.drv_table.specs.declared.rows.DriverRow.{DriverRow}
use Rattle.drv_table.specs.declared.rows.DriverRow.TheVariants as rows
use Rattle.drv_table.specs.DriverContent.{DriverContent}

-- ---- the leaving work, in its order

-- Async Advance is bit 5 of USBSTS (2.3.2).
abbrev pub tells_advance : RegisterFile → Bool
tells_advance r = has (word_of r Status) 0x20

-- the reading for which leaving work waits: of USBSTS while the doorbell is rung, of FRINDEX while something that was unlinked isn't
-- given back, and by turns of both
abbrev pub reading_for : DriverContent → RegisterFile → Bool → Bool → Option DriverRow
reading_for d r false false = None
reading_for d r true false = Some (rows.ReadStatus (tells_advance r))
reading_for d r false true = Some (rows.ReadFrame r.frame_index)
reading_for d r true true = Some (if d.periodic.status_next then rows.ReadStatus (tells_advance r) else rows.ReadFrame r.frame_index)

-- something that was unlinked from the frame list isn't given back yet
abbrev pub removes : DriverContent → Bool
removes d = nat_lt 0 (length d.periodic.removals)

-- the event that the doorbell asks for (4.8.2): it is rung for what waits, its answer is read, and the answer is cleared
abbrev pub bell_row : DriverContent → RegisterFile → Bell → Option DriverRow
bell_row d r bells.Heard = Some rows.ClearAdvance
bell_row d r bells.Quiet = if nat_lt 0 (length d.waiting) then Some rows.RingBell else reading_for d r false (removes d)
bell_row d r bells.Rung = reading_for d r true (removes d)

-- What was unlinked first has seen each reading that a later one has, so its boundary is seen first.
abbrev pub removal_row : Option Removal → Option DriverRow
removal_row None = None
removal_row (Some r) = if is_seen r.boundary then Some (rows.ReleaseRemoved r.what) else None

-- the first of two events that there is
abbrev pub first_row : Option DriverRow → Option DriverRow → Option DriverRow
first_row (Some row) later = Some row
first_row None later = later

-- the first of the leaving work: stores that a stalled endpoint is owed, a transfer, a descriptor to unlink, an endpoint, what left the
-- frame list, the doorbell
abbrev pub leaving_row : DriverContent → RegisterFile → Option DriverRow
leaving_row d r =
    first_row (option_map rows.Mend (slice_get d.mends 0))
    (first_row (option_map rows.ReleaseTransfer (slice_get d.harvested 0))
    (first_row (option_map rows.Unlink (slice_get d.periodic.unlinks 0))
    (first_row (option_map rows.ReleaseEndpoint (slice_get d.cleared 0))
    (first_row (removal_row (slice_get d.periodic.removals 0)) (bell_row d r d.bell)))))

-- ---- what left the frame list

-- USBCMD as at the opening, and with the doorbell, bit 6 (2.3.1)
abbrev pub opening_command : ℕ
opening_command = 0x80031

-- the same with the Interrupt on Async Advance Doorbell
abbrev pub doorbell_command : ℕ
doorbell_command = 0x80071

-- the doorbell once USBSTS was read: it is heard where Async Advance was 1 (4.8.2)
abbrev pub bell_after : Bool → Bell
bell_after true = bells.Heard
bell_after false = bells.Rung
