-- Where every packet on the high-speed bus gets through, no endpoint there uses up its errors (EHCI 1.0, 3.5.3 and 4.10.3; USB 2.0, 8.4 and
-- 8.5): each transaction is heard, and each device answers it as its kind may.
--     GetsThroughAbove f         the line loses no packet of the high-speed bus
--     KeepsHandshakes e          an interrupt endpoint at high speed has no item that is answered NYET, which isn't one of its handshakes
--                                (8.5.4)
--     IsHeardAbove s             so it is of each line and of each endpoint of a script
--     WhereHeardAbove so s       so, where that is so
--     ErrorsAreBelow d           each line that tells a halt by errors is of an endpoint at low or full speed
--     ErrorsAreBelowThroughout   so it is at each moment of the run of a script
--
-- Below hubs the same holds of bulk and control endpoints, where their hubs keep what they have (USB 2.0, 11.17 and 11.24.2): the answer to
-- a start-split is ACK or NAK, and each complete-split finds what is still there.
--     LeavesBuffers s            no line is a request to a hub of the script that clears a buffer, or resets a translator
--     is_unfailing x             an endpoint at high speed, or none that is an interrupt one
--     WhereBuffersStay so s      so, where that is so
--     ErrorsAreOfInterrupts d    each line that tells a halt by errors is of an interrupt endpoint at low or full speed
--     ErrorsAreOfInterruptsThroughout      so it is at each moment of the run of a script
--     KeepsErrors s              both: above, and below
use Rattle.std.specs.Prelude.{◌≡◌, ℕ, ◌||◌, not, Bool, true, false, slice_get, Some}
use Rattle.std.specs.List.{AllByRecursion, list_any}
use Rattle.usb_base.specs.declared.endpoints.EndCause.TheVariants as causes
use Rattle.usb_base.specs.declared.endpoints.EpDesc.{EpDesc}
use Rattle.usb_base.specs.declared.packets.EpKind.{EpKind}
use Rattle.usb_base.specs.declared.packets.EpKind.TheVariants.{Interrupt}
use Rattle.usb_base.specs.declared.packets.Speed.TheVariants.{High}
use Rattle.usb_base.specs.declared.reports.Report.{Report}
use Rattle.usb_base.specs.declared.reports.What.TheVariants as lines
use Rattle.script_types.specs.declared.devices.EpText.{EpText}
use Rattle.script_types.specs.declared.devices.Item.{Item}
use Rattle.script_types.specs.declared.devices.Item.TheVariants.{Nyet}
use Rattle.script_types.specs.declared.scripts.FateText.{FateText}
use Rattle.script_types.specs.declared.scripts.Script.{Script}
use Rattle.drv_table.specs.DriverContent.{DriverContent}
use Rattle.drv_table.specs.Words.{is_high}
use Rattle.bus_world.specs.Budgets.{moment}
use Rattle.claims_answers.specs.Hearing.{gets_through}
use Rattle.claims_world.specs.BelowStreams.{SparesHub}
use Rattle.claims_world.specs.Misses.{IsLineOf}

-- ---- the script

abbrev pub GetsThroughAbove : FateText → Type 0
GetsThroughAbove f = f.down ≡ false → gets_through f.fate ≡ true

abbrev pub is_nyet : Item → Bool
is_nyet Nyet = true
is_nyet _ = false

abbrev pub KeepsHandshakes : EpText → Type 0
KeepsHandshakes e = e.desc.kind ≡ Interrupt → e.desc.speed ≡ High → list_any is_nyet e.items ≡ false

pub record IsHeardAbove (s : Script) : Type 0 where
  pub packets : AllByRecursion GetsThroughAbove s.fates
  pub handshakes : AllByRecursion (λ device. AllByRecursion KeepsHandshakes device.eps) s.devices

abbrev pub LeavesBuffers : Script → Type 0
LeavesBuffers s = AllByRecursion (λ hub. AllByRecursion (λ l. SparesHub hub.addr l.1) s.lines) s.hubs

abbrev pub WhereHeardAbove : (Script → Type 0) → Script → Type 0
WhereHeardAbove so s = IsHeardAbove s → so s

abbrev pub WhereBuffersStay : (Script → Type 0) → Script → Type 0
WhereBuffersStay so s = LeavesBuffers s → so s

-- ---- its report

abbrev pub ErrorsAreBelow : DriverContent → Type 0
ErrorsAreBelow d = (i : ℕ) (line : Report) → slice_get d.reports i ≡ Some line → line.what ≡ lines.Halt causes.Error
    → IsLineOf d line (λ x. is_high x.speed ≡ false)

abbrev pub ErrorsAreBelowThroughout : Script → Type 0
ErrorsAreBelowThroughout s = (k : ℕ) → ErrorsAreBelow (moment s k).world.driver

abbrev pub is_interrupt : EpKind → Bool
is_interrupt Interrupt = true
is_interrupt _ = false

abbrev pub is_unfailing : EpDesc → Bool
is_unfailing x = is_high x.speed || not (is_interrupt x.kind)

abbrev pub ErrorsAreOfInterrupts : DriverContent → Type 0
ErrorsAreOfInterrupts d = (i : ℕ) (line : Report) → slice_get d.reports i ≡ Some line → line.what ≡ lines.Halt causes.Error
    → IsLineOf d line (λ x. is_unfailing x ≡ false)

abbrev pub ErrorsAreOfInterruptsThroughout : Script → Type 0
ErrorsAreOfInterruptsThroughout s = (k : ℕ) → ErrorsAreOfInterrupts (moment s k).world.driver

-- ---- both

pub record KeepsErrors (s : Script) : Type 0 where
  pub above : WhereHeardAbove ErrorsAreBelowThroughout s
  pub below : WhereHeardAbove (WhereBuffersStay ErrorsAreOfInterruptsThroughout) s
