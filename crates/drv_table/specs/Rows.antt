-- One event of the driver (EHCI 1.0, 4.8 to 4.10). Which row an event is, `driver_row` tells, and what stands after it, `after_driver_row`.
--     driver_row p              the row: the next event of the unfinished command; else leaving work and harvest by turns
--     after_driver_row row p       what stands after it
--     step_of row           what kind of event it is
use Rattle.std.specs.Prelude.{◌+◌, true, false, [], ◌++◌, drop, slice_get, Option, Some, None, unwrap_or}
use Rattle.op_registers.specs.Table.{after_write}
use Rattle.mem_runs.specs.Book.{holding, lend_taken, store}
use Rattle.drv_periodic_table.specs.Periodic.{read_again}
use Rattle.drv_table.specs.declared.content.Command.{Command}
use Rattle.drv_table.specs.declared.content.Turn.{Turn}
use Rattle.drv_table.specs.declared.content.Turn.TheVariants as turns
use Rattle.drv_table.specs.declared.content.Bell.TheVariants as bells
use Rattle.drv_table.specs.declared.rows.DriverRow.{DriverRow}
use Rattle.drv_table.specs.declared.rows.DriverRow.TheVariants as rows
use Rattle.drv_table.specs.declared.rows.DriverStep.{DriverStep}
use Rattle.drv_table.specs.declared.rows.DriverStep.TheVariants as steps
use Rattle.drv_table.specs.Leaving.{first_row, leaving_row, bell_after, doorbell_command}
use Rattle.drv_table.specs.Parts.{Parts}
use Rattle.drv_table.specs.Harvesting.{harvest_row, after_harvest}
use Rattle.drv_table.specs.Commands.{next_row, advance, after_lend}
use Rattle.drv_table.specs.Releases.{after_endpoint, after_transfer, freed_by}
use Rattle.drv_table.specs.Removals.{after_removed, after_unlink}
use Rattle.drv_table.specs.FrameChoice.{framed_by, linked_by}

-- ---- which row it is

-- leaving work and harvest take turns; where one of them has nothing to do, the other is next (this program's)
abbrev pub turn_row : Turn → Option DriverRow → Option DriverRow → DriverRow
turn_row turns.Leaving leaving harvest = unwrap_or (first_row leaving harvest) rows.Rest
turn_row turns.Harvest leaving harvest = unwrap_or (first_row harvest leaving) rows.Rest

-- an unfinished command comes before both
abbrev pub row_for : Parts → Option Command → DriverRow
row_for p (Some c) = next_row p.driver c
row_for p None = turn_row p.driver.turn (leaving_row p.driver p.registers) (harvest_row p.driver p.memory)

abbrev pub driver_row : Parts → DriverRow
driver_row p = row_for p p.driver.command

-- ---- any event

abbrev pub after_driver_row : DriverRow → Parts → Parts
after_driver_row rows.Lend p = after_lend p (lend_taken (holding p.driver.book p.memory))
after_driver_row (rows.Store b at v) p = record p { driver = advance p.driver; memory = store p.driver.book p.memory b at v }
after_driver_row (rows.Mend w) p =
    record p {
      driver = record p.driver { mends = drop 1 p.driver.mends; turn = turns.Harvest };
      memory = store p.driver.book p.memory w.queue w.at w.value;
    }
after_driver_row (rows.ReleaseTransfer t) p =
    after_transfer p t (slice_get p.driver.transfers t)
    (freed_by p.driver (holding p.driver.book p.memory) (slice_get p.driver.transfers t))
after_driver_row (rows.ReleaseEndpoint e) p = after_endpoint p e (slice_get p.driver.endpoints e)
after_driver_row rows.ClearAdvance p =
    record p {
      driver = record p.driver { cleared = p.driver.cleared ++ p.driver.rung; rung = []; bell = bells.Quiet; turn = turns.Harvest };
      registers = after_write p.registers 0x04 0x20;
    }
after_driver_row rows.RingBell p =
    record p {
      driver = record p.driver { rung = p.driver.rung ++ p.driver.waiting; waiting = []; bell = bells.Rung; turn = turns.Harvest };
      registers = after_write p.registers 0x00 doorbell_command;
    }
after_driver_row (rows.ReadStatus heard) p =
    record p {
      driver = record p.driver {
        bell = bell_after heard;
        turn = turns.Harvest;
        periodic = record p.driver.periodic { status_next = false };
      };
    }
after_driver_row (rows.ReadFrame n) p =
    record p {
      driver = record p.driver {
        turn = turns.Harvest;
        periodic = record p.driver.periodic { status_next = true; removals = read_again n p.driver.periodic.removals };
      };
    }
after_driver_row rows.Frames p = record p { driver = framed_by p.driver p.registers.frame_index p.driver.command }
after_driver_row rows.LendDescriptors p = after_lend p (lend_taken (holding p.driver.book (linked_by p.driver p.memory p.driver.command)))
after_driver_row (rows.Unlink t) p = after_unlink p t (slice_get p.driver.transfers t)
after_driver_row (rows.ReleaseRemoved what) p = after_removed p what
after_driver_row (rows.Harvest e t found) p =
    record p { driver = after_harvest p.driver p.memory e t found (slice_get p.driver.endpoints e) (slice_get p.driver.transfers t) }
after_driver_row rows.Rest p = p

abbrev pub step_of : DriverRow → DriverStep
step_of rows.Lend = steps.Lend
step_of (rows.Store b at v) = steps.Store
step_of (rows.Mend w) = steps.Store
step_of (rows.ReleaseTransfer t) = steps.Release
step_of (rows.ReleaseEndpoint e) = steps.Release
step_of rows.ClearAdvance = steps.Register
step_of rows.RingBell = steps.Register
step_of rows.Frames = steps.Register
step_of rows.LendDescriptors = steps.Lend
step_of (rows.Unlink t) = steps.Store
step_of (rows.ReleaseRemoved what) = steps.Release
step_of (rows.ReadFrame n) = steps.Register
step_of (rows.ReadStatus heard) = steps.Register
step_of (rows.Harvest e t found) = steps.Harvest
step_of rows.Rest = steps.Rest
