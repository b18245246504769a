-- A script for worked rows: beside a keyboard behind hub 9, which is asked by split transactions, the high-speed device 2 has an interrupt
-- endpoint of its own, IN, and a bulk one, OUT. All three are opened, two bytes are asked of the first and one is put to the second, eight
-- bytes are asked of the keyboard, and the first is cancelled.
--     key, sink, board        the endpoints, with their names
--     beside_split            the script
--     opened_twice            .. with lines that open the first with packets of two bytes, and with packets of four
use Rattle.std.specs.Prelude.{false, [], ◌∷◌, Some, None}
use Rattle.usb_base.specs.declared.commands.Cmd.TheVariants as commands
use Rattle.usb_base.specs.declared.endpoints.EpDesc.{EpDesc}
use Rattle.usb_base.specs.declared.endpoints.EpName.{EpName}
use Rattle.usb_base.specs.declared.packets.EpKind.TheVariants as kinds
use Rattle.usb_base.specs.declared.packets.Speed.TheVariants as speeds
use Rattle.usb_base.specs.declared.packets.Way.TheVariants as ways
use Rattle.script_types.specs.declared.devices.Item.TheVariants.{Bytes}
use Rattle.script_types.specs.declared.scripts.Line.TheVariants as lines
use Rattle.script_types.specs.declared.scripts.Script.{Script}

abbrev pub key_name : EpName
key_name = record { addr = 2; num = 1; way = ways.In }

abbrev pub sink_name : EpName
sink_name = record { addr = 2; num = 2; way = ways.Out }

abbrev pub board_name : EpName
board_name = record { addr = 3; num = 1; way = ways.In }

abbrev pub key : EpDesc
key = record { name = key_name; speed = speeds.High; kind = kinds.Interrupt; max = 2; period = 8; multi = 1; hub = None; port = 0; tt = 0 }

abbrev pub sink : EpDesc
sink = record { name = sink_name; speed = speeds.High; kind = kinds.Bulk; max = 512; period = 0; multi = 1; hub = None; port = 0; tt = 0 }

abbrev pub board : EpDesc
board = record {
  name = board_name;
  speed = speeds.Low;
  kind = kinds.Interrupt;
  max = 8;
  period = 64;
  multi = 1;
  hub = Some 9;
  port = 1;
  tt = 0;
}

abbrev pub beside_split : Script
beside_split = record {
  words = 2048;
  hubs = record { addr = 9; ports = 4; attached = Some speeds.Low ∷ None ∷ None ∷ None ∷ []; multi = false } ∷ [];
  devices = record {
    addr = 2;
    speed = speeds.High;
    eps = record { desc = key; items = Bytes (1 ∷ 2 ∷ []) ∷ []; room = 0; stuff = 0; clears = 0 }
        ∷ record { desc = sink; items = []; room = 0; stuff = 0; clears = 0 } ∷ [];
  } ∷ record {
    addr = 3;
    speed = speeds.Low;
    eps = record { desc = board; items = Bytes (4 ∷ 0 ∷ []) ∷ []; room = 0; stuff = 0; clears = 0 } ∷ [];
  } ∷ [];
  endpoints = key_name ∷ sink_name ∷ board_name ∷ [];
  fates = [];
  holds = [];
  lines = (5, lines.Command (commands.OpenEp key)) ∷ (6, lines.Command (commands.OpenEp sink)) ∷ (7, lines.Command (commands.OpenEp board))
      ∷ (8, lines.Command (commands.Get key_name 2 512)) ∷ (9, lines.Command (commands.Put sink_name (7 ∷ []) 512))
      ∷ (10, lines.Command (commands.Get board_name 8 8)) ∷ (11, lines.Command (commands.Cancel key_name)) ∷ [];
  version = 1;
  frames = 1024;
  park = 0;
  roots = [];
  classics = [];
  disks = [];
}

abbrev pub opened_twice : Script
opened_twice = record beside_split {
  lines = (5, lines.Command (commands.OpenEp key)) ∷ (6, lines.Command (commands.OpenEp (record key { max = 4 }))) ∷ [];
}
