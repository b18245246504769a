-- Devices and a hub for worked values: high-speed bulk endpoints that do nothing yet; a full-speed device with a bulk IN at port 1 of hub 9, and what
-- the bus answers at each step.
use Rattle.std.specs.Prelude.{ℕ, true, false, List, [], ◌∷◌, map, Some, None}
use Rattle.usb_base.specs.declared.endpoints.EpName.{EpName}
use Rattle.usb_base.specs.declared.packets.Ask.{Ask}
use Rattle.usb_base.specs.declared.packets.EpKind.TheVariants.{Bulk, Control}
use Rattle.usb_base.specs.declared.packets.Fate.TheVariants.{Lost, Damaged}
use Rattle.usb_base.specs.declared.packets.DataPart.TheVariants.{All}
use Rattle.usb_base.specs.declared.packets.Pid.{Pid}
use Rattle.usb_base.specs.declared.packets.Pid.TheVariants as Pids
use Rattle.usb_base.specs.declared.packets.Reply.{Reply}
use Rattle.usb_base.specs.declared.packets.Speed.TheVariants.{High, Full}
use Rattle.usb_base.specs.declared.packets.Split.{Split}
use Rattle.usb_base.specs.declared.packets.Split.TheVariants.{Plain, Start, Complete}
use Rattle.usb_base.specs.declared.packets.Way.{Way}
use Rattle.usb_base.specs.declared.packets.Way.TheVariants as Ways
use Rattle.script_types.specs.declared.devices.DeviceText.{DeviceText}
use Rattle.script_types.specs.declared.devices.EpText.{EpText}
use Rattle.script_types.specs.declared.devices.Item.TheVariants.{Bytes}
use Rattle.script_types.specs.declared.scripts.FateText.{FateText}
use Rattle.script_types.specs.declared.scripts.Script.{Script}
use Rattle.bus_wire.specs.declared.seats.Owner.TheVariants as Owners
use Rattle.bus_wire.specs.declared.seats.Seat.{Seat}
use Rattle.bus_wire.specs.Bus.{Bus, Wired, opening_wired, begin_after, reply_of, transact_after}

abbrev pub named : ℕ → ℕ → Way → EpName
named addr num way = record { addr = addr; num = num; way = way }

-- a bulk endpoint of the device at a place, on the high-speed bus
abbrev pub seat : EpName → ℕ → Seat
seat name place = record { name = name; kind = Bulk; owner = Owners.High place }

abbrev pub endpoint : EpName → EpText
endpoint name = record { desc = record { name = name; speed = High; kind = Bulk; max = 512; period = 0; multi = 1; hub = None; port = 0; tt = 0 }; items = []; room = 0; stuff = 0; clears = 0 }

abbrev pub device : ℕ → List EpName → DeviceText
device addr names = record { addr = addr; speed = High; eps = map endpoint names }

-- ---- below a hub

abbrev pub classic_name : EpName
classic_name = named 3 1 Ways.In

-- it sends one packet of three bytes
abbrev pub classic : EpText
classic = record { desc = record { name = classic_name; speed = Full; kind = Bulk; max = 64; period = 0; multi = 1; hub = Some 9; port = 1; tt = 0 }; items = Bytes (1 ∷ 2 ∷ 3 ∷ []) ∷ []; room = 0; stuff = 0; clears = 0 }

abbrev pub script : List FateText → Script
script fates = record {
  words = 2048;
  hubs = record { addr = 9; ports = 2; attached = Some Full ∷ None ∷ []; multi = false } ∷ [];
  devices = record { addr = 3; speed = Full; eps = classic ∷ [] } ∷ [];
  endpoints = classic_name ∷ [];
  fates = fates;
  holds = [];
  lines = [];
  version = 1;
  frames = 1024;
  park = 0;
  roots = [];
  classics = [];
  disks = [];
}

-- two devices on the high-speed bus; the lines of their endpoints are mixed
abbrev pub mixed : Script
mixed = record (script []) {
  hubs = [];
  devices = device 3 (named 3 1 Ways.In ∷ []) ∷ device 4 (named 4 2 Ways.Out ∷ named 4 1 Ways.In ∷ []) ∷ [];
  endpoints = named 4 2 Ways.Out ∷ named 3 1 Ways.In ∷ named 4 1 Ways.In ∷ [];
}

-- packet k of the endpoint is lost on the bus below, or on the high-speed bus
abbrev pub lost_below : ℕ → FateText
lost_below k = record { name = classic_name; down = true; k = k; fate = Lost }

abbrev pub lost_above : ℕ → FateText
lost_above k = record { name = classic_name; down = false; k = k; fate = Lost }

-- fates of the endpoint on both buses, and one of another endpoint
abbrev pub mixed_fates : List FateText
mixed_fates = lost_above 7 ∷ record (lost_above 1) { name = named 3 1 Ways.Out } ∷ lost_below 2 ∷ record (lost_above 0) { fate = Damaged } ∷ []

abbrev pub asks : Split → Ask
asks split = record { split = split; pid = Pids.In; addr = 3; ep = 1; speed = Full; kind = Bulk; toggle = Pids.Data0; limit = 64 }

pub data Step : Type 0 where
  Asks : Ask → List ℕ → Step
  Begins : ℕ → Step  -- the microframe with this frame index

abbrev pub start : Step
start = Asks (asks (Start 9 1 All)) []

abbrev pub complete : Step
complete = Asks (asks (Complete 9 1)) []

-- a plain ask of endpoint 0 of the hub
abbrev pub hub_asked : Pid → Pid → List ℕ → Step
hub_asked pid toggle out = Asks (record { split = Plain; pid = pid; addr = 9; ep = 0; speed = High; kind = Control; toggle = toggle; limit = 64 }) out

-- port 1 is disabled: a SETUP and its status stage
abbrev pub disable : List Step
disable = hub_asked Pids.Setup Pids.Data0 (35 ∷ 1 ∷ 1 ∷ 0 ∷ 1 ∷ 0 ∷ 0 ∷ 0 ∷ []) ∷ hub_asked Pids.In Pids.Data1 [] ∷ []

abbrev pub stepped : Wired → Step → Wired
stepped w (Asks ask out) = record w { bus = transact_after w.fixed w.bus ask out }
stepped w (Begins frindex) = record w { bus = begin_after w.fixed frindex w.bus }

-- what is heard at each ask, in order
abbrev pub heard : Wired → List Step → List Reply
heard w [] = []
heard w (Asks ask out ∷ steps) = reply_of w.fixed w.bus ask out ∷ heard (stepped w (Asks ask out)) steps
heard w (Begins frindex ∷ steps) = heard (stepped w (Begins frindex)) steps

-- what the bus is after them
abbrev pub left_wired : Wired → List Step → Wired
left_wired w [] = w
left_wired w (step ∷ steps) = left_wired (stepped w step) steps

abbrev pub left : Wired → List Step → Bus
left w steps = (left_wired w steps).bus

abbrev pub opened : List FateText → Wired
opened fates = opening_wired (script fates)
