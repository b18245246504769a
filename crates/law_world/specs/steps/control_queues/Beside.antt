-- Laws of what stands of a driver's control queues, beside the rows that change its structures (EHCI 1.0, 4.8.2, 4.10.2 and 4.10.3).
--     NewDriverControls           a driver that was just built has none
--     ControllerKeepsControls     each event of the controller leaves it: the walk changes no link, and leaves a queue head that is halted
--     SameKeepControls            contents that tell endpoints, transfers and stores alike, as where a command is refused
--     CommandsKeepControls        each accepted command of a driver of bulk and control endpoints
--     touches_none row, SilentKeepsControls
--                                 a row that stores no word, lends, gives back and harvests nothing
use Rattle.std.specs.Prelude.{◌≡◌, ℕ, Bool, true, false, List, Ok}
use Rattle.usb_base.specs.declared.commands.Cmd.{Cmd}
use Rattle.usb_base.specs.declared.packets.Ask.{Ask}
use Rattle.usb_base.specs.declared.packets.Reply.{Reply}
use Rattle.word_mem.specs.Memory.{Mem}
use Rattle.drv_table.specs.declared.content.Reserve.{Reserve}
use Rattle.drv_table.specs.declared.rows.DriverRow.{DriverRow}
use Rattle.drv_table.specs.declared.rows.DriverRow.TheVariants as rows
use Rattle.drv_table.specs.DriverContent.{DriverContent}
use Rattle.drv_table.specs.Accepting.{Offered}
use Rattle.drv_table.specs.Offers.{offered}
use Rattle.drv_table.specs.Opening.{opening}
use Rattle.drv_table.specs.Parts.{Parts as DriverParts}
use Rattle.drv_table.specs.Rows.{driver_row, after_driver_row}
use Rattle.law_structures.specs.lent_structures.Structures.{StructureSets}
use Rattle.law_ring.specs.Hand.{Hand}
use Rattle.claims_base.specs.Controller.{Base}
use Rattle.hc_core.specs.Controller.{Content}
use Rattle.law_driver.specs.AsynchronousScripts.{OpensAsynchronous}
use Rattle.law_driver.specs.chained_transfers.Asynchronous.{OnlyAsynchronous}
use Rattle.law_controller.specs.controlled_streams.Control.{IsControlled, ControlEffect}
use Rattle.law_queues.specs.released_queues.Fronts.{FrontsStand}
use Rattle.law_world.specs.steps.control_queues.Controls.{ControlsStand}

abbrev pub NewDriverControls : Type 0
NewDriverControls = (n : ℕ) (room : Reserve) (parts : StructureSets) (order : ℕ → ℕ → ℕ) (out : ℕ → List ℕ) → ControlsStand (opening n room).driver parts order out

-- ---- the controller

abbrev pub ControllerKeepsControls : {W : Type 0} → (W → ℕ → Bool → W → Type 0) → (W → Ask → List ℕ → Reply → W → Type 0) → Type 0
ControllerKeepsControls {W} begins transacts = (base : Base) (member : ℕ → Bool) (parts : StructureSets) (hand : Hand) (c : Content) (wire after : W) (now : StructureSets) (later : Hand)
    (d : DriverContent) (order : ℕ → ℕ → ℕ) (out : ℕ → List ℕ) → IsControlled base member parts hand c → ControlEffect begins transacts parts hand wire after now later
    → FrontsStand d parts order out → ControlsStand d parts order out → ControlsStand d now order out

-- ---- commands, and rows that touch no structure

abbrev pub SameKeepControls : Type 0
SameKeepControls = (d f : DriverContent) (parts : StructureSets) (order : ℕ → ℕ → ℕ) (out : ℕ → List ℕ) → f.endpoints ≡ d.endpoints → f.transfers ≡ d.transfers → f.mends ≡ d.mends
    → f.command ≡ d.command → f.waiting ≡ d.waiting → f.rung ≡ d.rung → ControlsStand d parts order out → ControlsStand f parts order out

abbrev pub CommandsKeepControls : Type 0
CommandsKeepControls = (d : DriverContent) (m : Mem) (cmd : Cmd) (o : Offered) (parts : StructureSets) (order : ℕ → ℕ → ℕ) (out : ℕ → List ℕ) → OnlyAsynchronous d
    → OpensAsynchronous cmd → offered d m cmd ≡ Ok o → ControlsStand d parts order out → ControlsStand o.driver parts order out

abbrev pub touches_none : DriverRow → Bool
touches_none rows.ClearAdvance = true
touches_none rows.RingBell = true
touches_none (rows.ReadStatus heard) = true
touches_none (rows.ReadFrame n) = true
touches_none rows.Rest = true
touches_none _ = false

abbrev pub SilentKeepsControls : Type 0
SilentKeepsControls = (p : DriverParts) (parts : StructureSets) (order : ℕ → ℕ → ℕ) (out : ℕ → List ℕ) → touches_none (driver_row p) ≡ true → ControlsStand p.driver parts order out
    → ControlsStand (after_driver_row (driver_row p) p).driver parts order out
