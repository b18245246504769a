-- A printer and a scanner at full speed behind a hub of four ports, for worked rows.
--     page hub port     its bulk OUT endpoint, as a line may describe it
--     printer           the script: it opens the endpoint, puts two packets to it, and clears the hub's buffer in between
--     keys hub port, board     an interrupt OUT endpoint in its place, and a script that opens it and puts a byte to it
--     sheet hub port, scanner     the bulk IN endpoint of a scanner, which has two packets; and the script that reads both
--     asks_hub          .. and opens endpoint 0 of the hub
use Rattle.std.specs.Prelude.{ℕ, false, [], ◌∷◌, Option, Some, None}
use Rattle.usb_base.specs.declared.commands.Cmd.TheVariants as commands
use Rattle.usb_base.specs.declared.endpoints.EpDesc.{EpDesc}
use Rattle.usb_base.specs.declared.endpoints.EpName.{EpName}
use Rattle.usb_base.specs.declared.packets.EpKind.TheVariants as kinds
use Rattle.usb_base.specs.declared.packets.Speed.TheVariants as speeds
use Rattle.usb_base.specs.declared.packets.Way.TheVariants as ways
use Rattle.script_types.specs.declared.devices.Item.TheVariants.{Bytes}
use Rattle.script_types.specs.declared.scripts.Line.TheVariants as lines
use Rattle.script_types.specs.declared.scripts.Script.{Script}
use Rattle.law_opened.specs.Samples.{beside_split}

abbrev pub page_name : EpName
page_name = record { addr = 3; num = 2; way = ways.Out }

abbrev pub page : Option ℕ → ℕ → EpDesc
page hub port = record {
  name = page_name;
  speed = speeds.Full;
  kind = kinds.Bulk;
  max = 8;
  period = 0;
  multi = 1;
  hub = hub;
  port = port;
  tt = 0;
}

abbrev pub printer : Script
printer = record beside_split {
  hubs = record { addr = 9; ports = 4; attached = None ∷ None ∷ None ∷ Some speeds.Full ∷ []; multi = false } ∷ [];
  devices = record {
    addr = 3;
    speed = speeds.Full;
    eps = record { desc = page (Some 9) 4; items = []; room = 0; stuff = 0; clears = 0 } ∷ [];
  } ∷ [];
  endpoints = page_name ∷ [];
  lines = (5, lines.Command (commands.OpenEp (page (Some 9) 4))) ∷ (6, lines.Command (commands.Put page_name (7 ∷ 8 ∷ []) 512)) ∷ [];
}

abbrev pub keys : Option ℕ → ℕ → EpDesc
keys hub port = record (page hub port) { kind = kinds.Interrupt; period = 8 }

abbrev pub board : Script
board = record printer {
  devices = record {
    addr = 3;
    speed = speeds.Full;
    eps = record { desc = keys (Some 9) 4; items = []; room = 0; stuff = 0; clears = 0 } ∷ [];
  } ∷ [];
  lines = (5, lines.Command (commands.OpenEp (keys (Some 9) 4))) ∷ (6, lines.Command (commands.Put page_name (7 ∷ []) 512)) ∷ [];
}

abbrev pub sheet_name : EpName
sheet_name = record { addr = 3; num = 1; way = ways.In }

abbrev pub sheet : Option ℕ → ℕ → EpDesc
sheet hub port = record (page hub port) { name = sheet_name }

abbrev pub scanner : Script
scanner = record printer {
  devices = record {
    addr = 3;
    speed = speeds.Full;
    eps = record { desc = sheet (Some 9) 4; items = Bytes (7 ∷ 8 ∷ []) ∷ Bytes (9 ∷ []) ∷ []; room = 0; stuff = 0; clears = 0 } ∷ [];
  } ∷ [];
  endpoints = sheet_name ∷ [];
  lines = (5, lines.Command (commands.OpenEp (sheet (Some 9) 4))) ∷ (6, lines.Command (commands.Get sheet_name 16 512)) ∷ [];
}

abbrev pub hub_control : EpDesc
hub_control = record {
  name = record { addr = 9; num = 0; way = ways.Ctl };
  speed = speeds.High;
  kind = kinds.Control;
  max = 64;
  period = 0;
  multi = 1;
  hub = None;
  port = 0;
  tt = 0;
}

abbrev pub asks_hub : Script
asks_hub = record scanner { lines = (5, lines.Command (commands.OpenEp hub_control)) ∷ [] }
