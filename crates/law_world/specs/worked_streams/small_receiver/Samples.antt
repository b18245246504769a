-- Small scripts of bulk endpoints (EHCI 1.0, 4.8.1 and 4.10; USB 2.0, 8.6), for worked rows: the endpoint 1 IN of device 3, which has a packet of one byte, is
-- opened, and one byte is asked of it.
--     desc             the endpoint
--     receiver         the script: the driver has two events for the open, and nine for the get; then two microframes pass
--     words            those of the get's one qTD: it leads to that in block 133, and asks for a byte of the buffer in block 134
--     world_at k       the world after k events and commands
--     row_at k         the row that its driver has next
--     two_gets         another script: of two packets of one byte 600 are asked, in two qTDs, and then one
--     over             what it is once all its lines were carried out
--     one_put          a third script: two bytes are put to the endpoint 2 OUT
--     put_words        those of the put's one qTD, which has no alternate link
--     put_at k, put_row k     its world and its driver's row at its moments
--     lossy_put        a fourth one: of a put of three qTDs, a byte each, the acknowledgement of the second is lost
--     lossy_at k       its world at its moments
--     one_cancel       a fifth one: a byte is asked of the first endpoint, which is cancelled once the byte came and before the controller writes back (4.8.2)
--     cancel_at k, cancel_row k     its world and its driver's row at its moments
use Rattle.std.specs.Prelude.{ℕ, false, List, [], ◌∷◌, None}
use Rattle.usb_base.specs.declared.commands.Cmd.{Cmd}
use Rattle.usb_base.specs.declared.commands.Cmd.TheVariants as commands
use Rattle.usb_base.specs.declared.endpoints.EpDesc.{EpDesc}
use Rattle.usb_base.specs.declared.packets.EpKind.TheVariants as kinds
use Rattle.usb_base.specs.declared.packets.Fate.TheVariants as fates
use Rattle.usb_base.specs.declared.packets.Speed.TheVariants as speeds
use Rattle.usb_base.specs.declared.packets.Way.TheVariants as ways
use Rattle.script_types.specs.declared.devices.Item.TheVariants as items
use Rattle.script_types.specs.declared.scripts.Event.TheVariants as events
use Rattle.script_types.specs.declared.scripts.Line.{Line}
use Rattle.script_types.specs.declared.scripts.Line.TheVariants as lines
use Rattle.script_types.specs.declared.scripts.Script.{Script}
use Rattle.drv_table.specs.declared.rows.DriverRow.{DriverRow}
use Rattle.drv_table.specs.Rows.{driver_row}
use Rattle.bus_world.specs.World.{World, driver_parts}
use Rattle.bus_world.specs.Orders.{OrderedWorld}
use Rattle.bus_world.specs.Budgets.{moment}

abbrev pub desc : EpDesc
desc = record { name = record { addr = 3; num = 1; way = ways.In }; speed = speeds.High; kind = kinds.Bulk; max = 512; period = 0; multi = 1; hub = None; port = 0; tt = 0 }

abbrev pub opens : Cmd
opens = commands.OpenEp desc

abbrev pub asks : Cmd
asks = commands.Get desc.name 1 512

abbrev pub actions : List (ℕ × Line)
actions =
    (5, lines.Command opens) ∷ (6, lines.Order events.D 2) ∷ (7, lines.Command asks) ∷ (8, lines.Order events.D 9) ∷ (9, lines.Micro 2) ∷ []

abbrev pub receiver : Script
receiver = record {
  words = 2048;
  hubs = [];
  devices = record { addr = 3; speed = speeds.High; eps = record { desc = desc; items = items.Bytes (5 ∷ []) ∷ []; room = 0; stuff = 0; clears = 0 } ∷ [] } ∷ [];
  endpoints = desc.name ∷ [];
  fates = [];
  holds = [];
  lines = actions;
  version = 1;
  frames = 1024;
  park = 0;
  roots = [];
  classics = [];
  disks = [];
}

abbrev pub words : List ℕ
words = 4256 ∷ 4256 ∷ 101760 ∷ 4288 ∷ 0 ∷ 0 ∷ 0 ∷ 0 ∷ []

abbrev pub world_at : ℕ → World
world_at k = (moment receiver k).world

abbrev pub row_at : ℕ → DriverRow
row_at k = driver_row (driver_parts (world_at k))

-- ---- two gets

abbrev pub two_gets : Script
two_gets = record receiver {
  devices = record { addr = 3; speed = speeds.High; eps = record { desc = desc; items = items.Bytes (5 ∷ []) ∷ items.Bytes (7 ∷ []) ∷ []; room = 0; stuff = 0; clears = 0 } ∷ [] } ∷ [];
  lines = (6, lines.Command opens) ∷ (7, lines.Order events.D 2)
      ∷ (8, lines.Command (commands.Get desc.name 600 512)) ∷ (9, lines.Order events.D 9) ∷ (10, lines.Micro 2)
      ∷ (11, lines.Command asks) ∷ (12, lines.Order events.D 9) ∷ (13, lines.Micro 2) ∷ [];
}

abbrev pub over : OrderedWorld
over = moment two_gets 200

-- ---- a put

abbrev pub sink : EpDesc
sink = record desc { name = record { addr = 3; num = 2; way = ways.Out } }

abbrev pub one_put : Script
one_put = record receiver {
  devices = record { addr = 3; speed = speeds.High; eps = record { desc = sink; items = []; room = 2; stuff = 0; clears = 0 } ∷ [] } ∷ [];
  endpoints = sink.name ∷ [];
  lines = (5, lines.Command (commands.OpenEp sink)) ∷ (6, lines.Order events.D 2) ∷ (7, lines.Command (commands.Put sink.name (11 ∷ 13 ∷ []) 512)) ∷ (8, lines.Order events.D 9)
      ∷ (9, lines.Micro 2) ∷ [];
}

abbrev pub put_words : List ℕ
put_words = 4256 ∷ 1 ∷ 167040 ∷ 4288 ∷ 0 ∷ 0 ∷ 0 ∷ 0 ∷ []

abbrev pub put_at : ℕ → World
put_at k = (moment one_put k).world

abbrev pub put_row : ℕ → DriverRow
put_row k = driver_row (driver_parts (put_at k))

-- ---- a put of three qTDs: each is a token, a data packet and its acknowledgement

abbrev pub lossy_put : Script
lossy_put = record one_put {
  devices = record { addr = 3; speed = speeds.High; eps = record { desc = sink; items = []; room = 3; stuff = 0; clears = 0 } ∷ [] } ∷ [];
  fates = record { name = sink.name; down = false; k = 5; fate = fates.Lost } ∷ [];
  lines = (5, lines.Command (commands.OpenEp sink)) ∷ (6, lines.Order events.D 2) ∷ (7, lines.Command (commands.Put sink.name (11 ∷ 13 ∷ 17 ∷ []) 1)) ∷ (8, lines.Order events.D 9)
      ∷ (9, lines.Micro 4) ∷ [];
}

abbrev pub lossy_at : ℕ → World
lossy_at k = (moment lossy_put k).world

-- ---- a cancel: after six events of the controller the byte is in the copy in hand

abbrev pub cancels : Cmd
cancels = commands.Cancel desc.name

abbrev pub one_cancel : Script
one_cancel = record receiver {
  lines = (5, lines.Command opens) ∷ (6, lines.Order events.D 2) ∷ (7, lines.Command asks) ∷ (8, lines.Order events.D 9) ∷ (9, lines.Order events.C 6) ∷ (10, lines.Command cancels)
      ∷ (11, lines.Order events.D 2) ∷ (12, lines.Micro 1) ∷ [];
}

abbrev pub cancel_at : ℕ → World
cancel_at k = (moment one_cancel k).world

abbrev pub cancel_row : ℕ → DriverRow
cancel_row k = driver_row (driver_parts (cancel_at k))
