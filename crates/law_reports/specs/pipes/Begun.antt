-- By which row of the controller a microframe begins, as the streams tell its event (EHCI 1.0, 2.3.4 and 4.4).
--     IsOfRow w z     where the event is the begin of a microframe, its row is Begin, and FRINDEX is that which the row leaves
use Rattle.std.specs.Prelude.{◌≡◌}
use Rattle.usb_base.specs.declared.packets.Ask.{Ask}
use Rattle.op_registers.specs.Events.{next_index}
use Rattle.hc_core.specs.declared.controller.ControllerRow.TheVariants as rows
use Rattle.bus_wire.specs.Bus.{Wired}
use Rattle.law_structures.specs.lent_structures.Structures.{StructureSets}
use Rattle.law_ring.specs.Hand.{Hand}
use Rattle.law_controller.specs.frame_control.Joined.{BothStreamEffect, begun, moved}
use Rattle.law_world.specs.steps.Streaming.{begins_by, transacts_by}
use Rattle.bus_world.specs.World.{World, controller_row}

abbrev pub IsOfRow : World → {Beside : Ask → Type 0} {parts : StructureSets} {hand : Hand} {wire after : Wired} {now : StructureSets}
    {later : Hand} → BothStreamEffect begins_by Beside transacts_by parts hand wire after now later → Type 0
IsOfRow w (begun index allowed asked told) = (index ≡ next_index w.registers.frame_index) × (controller_row w ≡ rows.Begin)
IsOfRow w (moved z) = Unit {0}
