-- The world as a frame began, and what stays in the frame list since (EHCI 1.0, 4.4 and 4.6).
--     frame_began s k            the world before the Begin of microframe 0 of the frame of moment k; before the first one that of no line
--     StaysInFrames s            at each moment of the run of a script: an interrupt endpoint that was in the frame list as the frame began
--                                is in it with the same placement, and no store is under way that links or unlinks its queue head, unless
--                                a cancel of it was accepted
--     TextsStayInFrames          so it is of each script that a text spells
use Rattle.std.specs.Prelude.{ℕ, zero, suc, List}
use Rattle.script_types.specs.declared.scripts.Script.{Script}
use Rattle.script_text.specs.Faults.{Spells}
use Rattle.bandwidth.specs.declared.placements.Placement.{Placement}
use Rattle.hc_interrupt.specs.Turns.{microframe_of}
use Rattle.hc_core.specs.declared.controller.ControllerRow.{ControllerRow}
use Rattle.hc_core.specs.declared.controller.ControllerRow.TheVariants as rows
use Rattle.bus_wire.specs.Bus.{Fixed}
use Rattle.bus_world.specs.Budgets.{moment}
use Rattle.bus_world.specs.Opening.{opening_world}
use Rattle.bus_world.specs.World.{World, controller_row, controller_next}
use Rattle.claims_world.specs.Carried.{carried}
use Rattle.claims_world.specs.Coming.{IsInItsFrames}
use Rattle.claims_world.specs.DueAtBegin.{IsUncancelled}

abbrev pub frame_began_at : ControllerRow → ℕ → World → World → World
frame_began_at rows.Begin zero w b = w
frame_began_at rows.Begin (suc u) w b = b
frame_began_at rows.Idle u w b = b
frame_began_at rows.Frame u w b = b
frame_began_at rows.Enter u w b = b
frame_began_at rows.Go u w b = b
frame_began_at rows.End u w b = b

abbrev pub frame_began_by : Fixed → World → World → World
frame_began_by fixed w b = frame_began_at (controller_row w) (microframe_of (controller_next fixed w).control.frame.index) w b

abbrev pub frame_began : Script → ℕ → World
frame_began s k = carried frame_began_by s (opening_world s) k

abbrev pub StaysInFrames : Script → Type 0
StaysInFrames s = (k e q : ℕ) (p : Placement) → IsInItsFrames (frame_began s k).driver e q p → IsUncancelled (moment s k).world.driver e
    → IsInItsFrames (moment s k).world.driver e q p

abbrev pub TextsStayInFrames : Type 0
TextsStayInFrames = (text : List ℕ) (s : Script) → Spells text s → StaysInFrames s
