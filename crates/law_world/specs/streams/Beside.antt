-- What stands beside the queues of such a world, of where they end and of what was told of them, while endpoints leave the ring (EHCI 1.0, 4.8.2 and 4.10).
--     IsTold s w              each queue that the walk may meet has its front and its tail, and its report tells what was moved of it
--     LeaveKeepsTails         a step of a leave leaves each of these where it is
--     CancelKeepsTold         so does a cancel, accepted or refused, with what is told of each
--     ClearKeepsTold          so does the clear of Async Advance
use Rattle.std.specs.Prelude.{◌≡◌, ℕ, List}
use Rattle.usb_base.specs.declared.commands.Cmd.TheVariants as commands
use Rattle.usb_base.specs.declared.endpoints.EpName.{EpName}
use Rattle.drv_table.specs.declared.rows.DriverRow.TheVariants as rows
use Rattle.drv_table.specs.DriverContent.{DriverContent}
use Rattle.drv_table.specs.Rows.{driver_row}
use Rattle.law_driver.specs.chained_transfers.AsynchronousTurns.{AsynchronousTakesTurns}
use Rattle.law_structures.specs.lent_structures.Structures.{StructureSets}
use Rattle.law_queues.specs.harvest_laws.Told.{ToldStands}
use Rattle.law_queues.specs.leaving_drivers.Before.{IsAsBefore, NearFewer}
use Rattle.bus_world.specs.World.{World, driver_parts, driver_next, commanded}
use Rattle.law_world.specs.steps.Streaming.{Standing}
use Rattle.law_queues.specs.standing_fronts.Tails.{TailsStand}

pub record IsTold (s : Standing) (w : World) : Type 0 where
  pub tails : TailsStand w.driver s.parts s.order s.out
  pub told : ToldStands w.driver s.hand s.parts s.reported

abbrev pub LeaveKeepsTails : Type 0
LeaveKeepsTails = (d f : DriverContent) (parts : StructureSets) (order : ℕ → ℕ → ℕ) (out : ℕ → List ℕ) → IsAsBefore d f → NearFewer d f
    → TailsStand d parts order out → TailsStand f parts order out

abbrev pub CancelKeepsTold : Type 0
CancelKeepsTold = (s : Standing) (w : World) (line : ℕ) (name : EpName) → AsynchronousTakesTurns w.driver → IsTold s w → IsTold s (commanded w line (commands.Cancel name))

abbrev pub ClearKeepsTold : Type 0
ClearKeepsTold = (s : Standing) (w : World) → driver_row (driver_parts w) ≡ rows.ClearAdvance → IsTold s w → IsTold s (driver_next w)
