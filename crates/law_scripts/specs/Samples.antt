-- A script for worked rows: it opens endpoint 15 of device 127, the highest address and the highest number that there are.
use Rattle.std.specs.Prelude.{[], ◌∷◌, None}
use Rattle.usb_base.specs.declared.commands.Cmd.TheVariants as commands
use Rattle.usb_base.specs.declared.endpoints.EpDesc.{EpDesc}
use Rattle.usb_base.specs.declared.packets.EpKind.TheVariants as kinds
use Rattle.usb_base.specs.declared.packets.Speed.TheVariants as speeds
use Rattle.usb_base.specs.declared.packets.Way.TheVariants as ways
use Rattle.script_types.specs.declared.scripts.Line.TheVariants as lines
use Rattle.script_types.specs.declared.scripts.Script.{Script}

abbrev pub highest : EpDesc
highest = record { name = record { addr = 127; num = 15; way = ways.In }; speed = speeds.High; kind = kinds.Bulk; max = 512; period = 0; multi = 1; hub = None; port = 0; tt = 0 }

abbrev pub opens_highest : Script
opens_highest = record {
  words = 2048;
  hubs = [];
  devices = record { addr = 127; speed = speeds.High; eps = record { desc = highest; items = []; room = 0; stuff = 0; clears = 0 } ∷ [] } ∷ [];
  endpoints = highest.name ∷ [];
  fates = [];
  holds = [];
  lines = (5, lines.Command (commands.OpenEp highest)) ∷ [];
  version = 1;
  frames = 1024;
  park = 0;
  roots = [];
  classics = [];
  disks = [];
}
