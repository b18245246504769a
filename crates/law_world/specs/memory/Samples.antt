-- A script for worked rows of endpoints of two kinds (EHCI 1.0, 3.1, 3.6, 4.6, 4.8 and 4.12.2; USB 2.0, 5.7 and 5.8): the full-speed keyboard at port 1 of hub 9 has an
-- interrupt IN endpoint of eight bytes that is polled each 128 frames, and a high-speed disk a bulk IN endpoint. The keyboard's is opened, and the driver has its nine events
-- for that; so has it two for the disk's; eight bytes are asked of the keyboard's, the driver has nine events for that, and then two microframes pass.
--     keyboard, disk       the endpoints
--     keyboard_and_disk    the script
--     keyboard_place       the first of the placements that the keyboard's may have: frame 0 of its period, a start-split in microframe 0, complete-splits in 2 to 4
--     opened               its world once the open of the keyboard's was accepted with this placement
--     typed_at k           its world k events and commands after that
--     typed_row k          the row that its driver has next then
--     unlent c             this content over a memory of no block
--     PlansFirst           the plan of a driver that was just built gives the keyboard's endpoint this placement
--     IsMixedScript s      the premises: the script fits, says bytes, and opens endpoints whose numbers and ways fit
use Rattle.std.specs.Prelude.{◌≡◌, ℕ, false, List, [], ◌∷◌, Some, None, Ok}
use Rattle.usb_base.specs.declared.commands.Cmd.TheVariants as commands
use Rattle.usb_base.specs.declared.endpoints.EpDesc.{EpDesc}
use Rattle.usb_base.specs.declared.packets.EpKind.TheVariants as kinds
use Rattle.usb_base.specs.declared.packets.Speed.TheVariants as speeds
use Rattle.usb_base.specs.declared.packets.Way.TheVariants as ways
use Rattle.script_types.specs.declared.devices.Item.TheVariants as items
use Rattle.script_types.specs.declared.scripts.Event.TheVariants as events
use Rattle.script_types.specs.declared.scripts.Line.{Line}
use Rattle.script_types.specs.declared.scripts.Line.TheVariants as lines
use Rattle.script_types.specs.declared.scripts.Script.{Script}
use Rattle.script_fits.specs.Fits.{IsFit}
use Rattle.law_scripts.specs.byte_answers.Bytes.{IsByteScript}
use Rattle.bandwidth.specs.declared.placements.Placement.{Placement}
use Rattle.bandwidth.specs.Admission.{answer}
use Rattle.drv_periodic_table.specs.Periodic.{want_of}
use Rattle.drv_table.specs.declared.rows.DriverRow.{DriverRow}
use Rattle.drv_table.specs.Offers.{planned_open}
use Rattle.drv_table.specs.Rows.{driver_row}
use Rattle.hc_core.specs.Controller.{Content}
use Rattle.bus_wire.specs.Bus.{fixed_of}
use Rattle.bus_world.specs.World.{World, driver_parts, commanded_by, name_in}
use Rattle.bus_world.specs.Opening.{opening_world}
use Rattle.bus_world.specs.Orders.{at_place, orders_of, ticks}
use Rattle.law_world.specs.memory.PlacedLaws.{FitsMixed}

abbrev pub keyboard : EpDesc
keyboard = record { name = record { addr = 4; num = 1; way = ways.In }; speed = speeds.Full; kind = kinds.Interrupt; max = 8; period = 1024; multi = 1; hub = Some 9; port = 1; tt = 0 }

abbrev pub disk : EpDesc
disk = record { name = record { addr = 3; num = 1; way = ways.In }; speed = speeds.High; kind = kinds.Bulk; max = 512; period = 0; multi = 1; hub = None; port = 0; tt = 0 }

abbrev pub after_the_open : List (ℕ × Line)
after_the_open =
    (7, lines.Order events.D 9)
    ∷ (8, lines.Command (commands.OpenEp disk))
    ∷ (9, lines.Order events.D 2)
    ∷ (10, lines.Command (commands.Get keyboard.name 8 8))
    ∷ (11, lines.Order events.D 9)
    ∷ (12, lines.Micro 2)
    ∷ []

abbrev pub keyboard_and_disk : Script
keyboard_and_disk = record {
  words = 2048;
  hubs = record { addr = 9; ports = 1; attached = Some speeds.Full ∷ []; multi = false } ∷ [];
  devices =
      record { addr = 4; speed = speeds.Full; eps = record { desc = keyboard; items = items.Bytes (0 ∷ 0 ∷ 4 ∷ 0 ∷ 0 ∷ 0 ∷ 0 ∷ 0 ∷ []) ∷ []; room = 0; stuff = 0; clears = 0 } ∷ [] }
      ∷ record { addr = 3; speed = speeds.High; eps = record { desc = disk; items = []; room = 0; stuff = 0; clears = 0 } ∷ [] }
      ∷ [];
  endpoints = keyboard.name ∷ disk.name ∷ [];
  fates = [];
  holds = [];
  lines = (6, lines.Command (commands.OpenEp keyboard)) ∷ after_the_open;
  version = 1;
  frames = 1024;
  park = 0;
  roots = [];
  classics = [];
  disks = [];
}

abbrev pub keyboard_place : Placement
keyboard_place = record { period = 1024; phase = 0; smask = 1; cmask = 28 }

abbrev pub opened : World
opened =
    commanded_by (opening_world keyboard_and_disk) 6 (name_in (commands.OpenEp keyboard))
    (planned_open (opening_world keyboard_and_disk).driver (opening_world keyboard_and_disk).memory keyboard (Ok keyboard_place))

abbrev pub typed_at : ℕ → World
typed_at k = (ticks (fixed_of keyboard_and_disk) (at_place opened (orders_of after_the_open)) k).world

abbrev pub typed_row : ℕ → DriverRow
typed_row k = driver_row (driver_parts (typed_at k))

abbrev pub PlansFirst : Type 0
PlansFirst = answer (opening_world keyboard_and_disk).driver.periodic.plan (want_of 0 keyboard) ≡ Ok keyboard_place

pub record IsMixedScript (s : Script) : Type 0 where
  pub fits : IsFit s
  pub bytes : IsByteScript s
  pub opens : FitsMixed s

-- over a memory of no block
abbrev pub unlent : Content → Content
unlent c = record c { memory = record { words = []; states = []; foreign = 0 } }
