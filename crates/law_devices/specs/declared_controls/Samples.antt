-- A script for worked rows: a hub 4, and device 3 with a control endpoint beside a bulk IN endpoint. Both are opened, and the hub's own endpoint too; then
-- comes a read of 18 bytes, and a write of two.
--     zero          the control endpoint's description
--     reading, writing     the setup bytes
--     beside_bulk   the script
use Rattle.std.specs.Prelude.{ℕ, false, List, [], ◌∷◌, None}
use Rattle.usb_base.specs.declared.commands.Cmd.TheVariants as commands
use Rattle.usb_base.specs.declared.endpoints.EpDesc.{EpDesc}
use Rattle.usb_base.specs.declared.packets.EpKind.TheVariants as kinds
use Rattle.usb_base.specs.declared.packets.Speed.TheVariants as speeds
use Rattle.usb_base.specs.declared.packets.Way.TheVariants as ways
use Rattle.dev_control.specs.Worked.{read_of, write_of}
use Rattle.script_types.specs.declared.devices.EpText.{EpText}
use Rattle.script_types.specs.declared.devices.Item.TheVariants as items
use Rattle.script_types.specs.declared.scripts.Line.TheVariants as lines
use Rattle.script_types.specs.declared.scripts.Script.{Script}
use Rattle.script_world.specs.Draft.{hub_desc}
use Rattle.law_devices.specs.Samples.{text_of, second}

abbrev pub zero : EpDesc
zero = record { name = record { addr = 3; num = 0; way = ways.Ctl }; speed = speeds.High; kind = kinds.Control; max = 64; period = 0; multi = 1; hub = None; port = 0; tt = 0 }

abbrev pub reading : List ℕ
reading = read_of 18

abbrev pub writing : List ℕ
writing = write_of 2

abbrev pub zero_text : EpText
zero_text = record { desc = zero; items = items.Nak 2 ∷ items.Request reading (18 ∷ 1 ∷ []) ∷ items.Nak 1 ∷ []; room = 0; stuff = 0; clears = 0 }

abbrev pub beside_bulk : Script
beside_bulk = record {
  words = 2048;
  hubs = record { addr = 4; ports = 1; attached = None ∷ []; multi = false } ∷ [];
  devices = record { addr = 3; speed = speeds.High; eps = zero_text ∷ text_of 2 (7 ∷ 9 ∷ []) ∷ [] } ∷ [];
  endpoints = zero.name ∷ second.name ∷ [];
  fates = [];
  holds = [];
  lines = (11, lines.Command (commands.OpenEp zero))
      ∷ (12, lines.Command (commands.OpenEp second))
      ∷ (13, lines.Command (commands.OpenEp (hub_desc 4)))
      ∷ (14, lines.Command (commands.Control zero.name reading []))
      ∷ (15, lines.Command (commands.Control zero.name writing (5 ∷ 6 ∷ [])))
      ∷ [];
  version = 1;
  frames = 1024;
  park = 0;
  roots = [];
  classics = [];
  disks = [];
}
