-- A script for worked rows: device 3 with two bulk IN endpoints, each with a packet, of which the second is opened.
--     second         its description
--     two_senders    the script
use Rattle.std.specs.Prelude.{ℕ, List, [], ◌∷◌, None}
use Rattle.usb_base.specs.declared.commands.Cmd.TheVariants as commands
use Rattle.usb_base.specs.declared.endpoints.EpDesc.{EpDesc}
use Rattle.usb_base.specs.declared.packets.EpKind.TheVariants as kinds
use Rattle.usb_base.specs.declared.packets.Speed.TheVariants as speeds
use Rattle.usb_base.specs.declared.packets.Way.TheVariants as ways
use Rattle.script_types.specs.declared.devices.EpText.{EpText}
use Rattle.script_types.specs.declared.devices.Item.TheVariants as items
use Rattle.script_types.specs.declared.scripts.Line.TheVariants as lines
use Rattle.script_types.specs.declared.scripts.Script.{Script}

abbrev pub desc_of : ℕ → EpDesc
desc_of num = record { name = record { addr = 3; num = num; way = ways.In }; speed = speeds.High; kind = kinds.Bulk; max = 512; period = 0; multi = 1; hub = None; port = 0; tt = 0 }

abbrev pub text_of : ℕ → List ℕ → EpText
text_of num bytes = record { desc = desc_of num; items = items.Bytes bytes ∷ []; room = 0; stuff = 0; clears = 0 }

abbrev pub second : EpDesc
second = desc_of 2

abbrev pub two_senders : Script
two_senders = record {
  words = 2048;
  hubs = [];
  devices = record { addr = 3; speed = speeds.High; eps = text_of 1 (5 ∷ []) ∷ text_of 2 (7 ∷ 9 ∷ []) ∷ [] } ∷ [];
  endpoints = (desc_of 1).name ∷ second.name ∷ [];
  fates = [];
  holds = [];
  lines = (7, lines.Command (commands.OpenEp second)) ∷ [];
  version = 1;
  frames = 1024;
  park = 0;
  roots = [];
  classics = [];
  disks = [];
}
