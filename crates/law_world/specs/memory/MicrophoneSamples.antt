-- A script for worked rows of an isochronous endpoint (EHCI 1.0, 3.3, 4.6 and 4.7): a high-speed microphone of eight bytes a microframe is opened, one descriptor of it
-- is asked for, the driver has its three events for that, and then two microframes pass.
--     microphone       the endpoint
--     one_microphone   the script
--     opened           its world once the open was accepted: the endpoint has the one placement that it may have, in each microframe
--     heard_at k       its world k events and commands after that
--     heard_row k      the row that its driver has next then
use Rattle.std.specs.Prelude.{ℕ, List, [], ◌∷◌}
use Rattle.usb_base.specs.declared.commands.Cmd.TheVariants as commands
use Rattle.usb_base.specs.declared.endpoints.EpDesc.{EpDesc}
use Rattle.usb_base.specs.declared.packets.Speed.TheVariants as speeds
use Rattle.script_types.specs.declared.scripts.Event.TheVariants as events
use Rattle.script_types.specs.declared.scripts.Line.{Line}
use Rattle.script_types.specs.declared.scripts.Line.TheVariants as lines
use Rattle.script_types.specs.declared.scripts.Script.{Script}
use Rattle.drv_table.specs.declared.rows.DriverRow.{DriverRow}
use Rattle.drv_table.specs.Offers.{accepted_iso}
use Rattle.drv_table.specs.Rows.{driver_row}
use Rattle.law_admission.specs.Worked.{camera, each_microframe}
use Rattle.bus_wire.specs.Bus.{fixed_of}
use Rattle.bus_world.specs.World.{World, driver_parts}
use Rattle.bus_world.specs.Opening.{opening_world}
use Rattle.bus_world.specs.Orders.{at_place, orders_of, ticks}

abbrev pub microphone : EpDesc
microphone = record (camera 1) { max = 8; multi = 1 }

abbrev pub after_the_open : List (ℕ × Line)
after_the_open = (6, lines.Command (commands.Iso microphone.name 1 0 0)) ∷ (7, lines.Order events.D 3) ∷ (8, lines.Micro 2) ∷ []

abbrev pub one_microphone : Script
one_microphone = record {
  words = 2048;
  hubs = [];
  devices = record { addr = 5; speed = speeds.High; eps = record { desc = microphone; items = []; room = 0; stuff = 0; clears = 0 } ∷ [] } ∷ [];
  endpoints = microphone.name ∷ [];
  fates = [];
  holds = [];
  lines = (5, lines.Command (commands.OpenEp microphone)) ∷ after_the_open;
  version = 1;
  frames = 1024;
  park = 0;
  roots = [];
  classics = [];
  disks = [];
}

abbrev pub opened : World
opened = record (opening_world one_microphone) { driver = accepted_iso (opening_world one_microphone).driver microphone each_microframe }

abbrev pub heard_at : ℕ → World
heard_at k = (ticks (fixed_of one_microphone) (at_place opened (orders_of after_the_open)) k).world

abbrev pub heard_row : ℕ → DriverRow
heard_row k = driver_row (driver_parts (heard_at k))
