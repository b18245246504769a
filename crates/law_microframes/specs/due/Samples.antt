-- A script for worked rows of what is due (EHCI 1.0, 3.6, 4.4, 4.6 and 4.10; USB 2.0, 5.7): a high-speed keyboard has an interrupt IN
-- endpoint of eight bytes that is polled each 128 frames. It is opened, and the driver has its nine events for that; eight bytes are asked
-- of it, the driver has nine events for that, and then two microframes pass.
--     keyboard          the endpoint
--     one_keyboard      the script
--     keyboard_place    one of the placements that it may have: microframe 1 of frame 0 of its period
--     opened            its world once the open was accepted with this placement
--     keyed_at k        its world k events and commands after that
--     keyed_so_far k    what the walk has done in the microframe then; keyed_visits k: what was visited in the microframe
--     its_queue         the byte address of the keyboard's queue head
--     with_loss         the script with the second packet of the endpoint lost
use Rattle.std.specs.Prelude.{ℕ, false, List, [], ◌∷◌, None, Ok}
use Rattle.usb_base.specs.declared.commands.Cmd.TheVariants as commands
use Rattle.usb_base.specs.declared.endpoints.EpDesc.{EpDesc}
use Rattle.usb_base.specs.declared.packets.EpKind.TheVariants as kinds
use Rattle.usb_base.specs.declared.packets.Fate.TheVariants as fates_of
use Rattle.usb_base.specs.declared.packets.Speed.TheVariants as speeds
use Rattle.usb_base.specs.declared.packets.Way.TheVariants as ways
use Rattle.script_types.specs.declared.devices.Item.TheVariants as items
use Rattle.script_types.specs.declared.scripts.Event.TheVariants as events
use Rattle.script_types.specs.declared.scripts.Line.{Line}
use Rattle.script_types.specs.declared.scripts.Line.TheVariants as lines
use Rattle.script_types.specs.declared.scripts.Script.{Script}
use Rattle.bandwidth.specs.declared.placements.Placement.{Placement}
use Rattle.drv_table.specs.Offers.{planned_open}
use Rattle.bus_wire.specs.Bus.{fixed_of}
use Rattle.bus_world.specs.Opening.{opening_world}
use Rattle.bus_world.specs.Orders.{at_place, orders_of, ticks}
use Rattle.bus_world.specs.World.{World, commanded_by, name_in}
use Rattle.claims_world.specs.Carried.{carried_from}
use Rattle.claims_world.specs.Visits.{visits_next}
use Rattle.claims_world.specs.SoFar.{SoFar, nothing_yet, so_far_next}

abbrev pub keyboard : EpDesc
keyboard = record {
  name = record { addr = 4; num = 1; way = ways.In };
  speed = speeds.High;
  kind = kinds.Interrupt;
  max = 8;
  period = 1024;
  multi = 1;
  hub = None;
  port = 0;
  tt = 0;
}

abbrev pub after_the_open : List (ℕ × Line)
after_the_open =
    (6, lines.Order events.D 9)
    ∷ (7, lines.Command (commands.Get keyboard.name 8 8))
    ∷ (8, lines.Order events.D 9)
    ∷ (9, lines.Micro 2)
    ∷ []

abbrev pub one_keyboard : Script
one_keyboard = record {
  words = 2048;
  hubs = [];
  devices =
      record {
        addr = 4;
        speed = speeds.High;
        eps =
            record { desc = keyboard; items = items.Bytes (0 ∷ 0 ∷ 4 ∷ 0 ∷ 0 ∷ 0 ∷ 0 ∷ 0 ∷ []) ∷ []; room = 0; stuff = 0; clears = 0 } ∷ [];
      }
      ∷ [];
  endpoints = keyboard.name ∷ [];
  fates = [];
  holds = [];
  lines = (5, lines.Command (commands.OpenEp keyboard)) ∷ after_the_open;
  version = 1;
  frames = 1024;
  park = 0;
  roots = [];
  classics = [];
  disks = [];
}

abbrev pub keyboard_place : Placement
keyboard_place = record { period = 1024; phase = 0; smask = 2; cmask = 0 }

abbrev pub opened : World
opened =
    commanded_by (opening_world one_keyboard) 5 (name_in (commands.OpenEp keyboard))
    (planned_open (opening_world one_keyboard).driver (opening_world one_keyboard).memory keyboard (Ok keyboard_place))

abbrev pub keyed_at : ℕ → World
keyed_at k = (ticks (fixed_of one_keyboard) (at_place opened (orders_of after_the_open)) k).world

abbrev pub keyed_so_far : ℕ → SoFar
keyed_so_far k = carried_from so_far_next (fixed_of one_keyboard) (at_place opened (orders_of after_the_open)) nothing_yet k

abbrev pub keyed_visits : ℕ → List ℕ
keyed_visits k = carried_from visits_next (fixed_of one_keyboard) (at_place opened (orders_of after_the_open)) [] k

abbrev pub its_queue : ℕ
its_queue = 4160

abbrev pub with_loss : Script
with_loss = record one_keyboard { fates = record { name = keyboard.name; down = false; k = 1; fate = fates_of.Lost } ∷ [] }
