-- A script for worked rows: the one of two bulk IN endpoints, with an OUT endpoint of the second's number, which is opened too.
--     out_second     its description
--     both_ways      the script
use Rattle.std.specs.Prelude.{[], ◌∷◌}
use Rattle.usb_base.specs.declared.commands.Cmd.TheVariants as commands
use Rattle.usb_base.specs.declared.endpoints.EpDesc.{EpDesc}
use Rattle.usb_base.specs.declared.packets.Speed.TheVariants as speeds
use Rattle.usb_base.specs.declared.packets.Way.TheVariants as ways
use Rattle.script_types.specs.declared.devices.EpText.{EpText}
use Rattle.script_types.specs.declared.devices.Item.TheVariants as items
use Rattle.script_types.specs.declared.scripts.Line.TheVariants as lines
use Rattle.script_types.specs.declared.scripts.Script.{Script}
use Rattle.law_devices.specs.Samples.{desc_of, text_of, second, two_senders}

abbrev pub out_second : EpDesc
out_second = record second { name = record { addr = 3; num = 2; way = ways.Out } }

abbrev pub out_text : EpText
out_text = record { desc = out_second; items = items.Nak 1 ∷ []; room = 64; stuff = 0; clears = 0 }

abbrev pub both_ways : Script
both_ways = record two_senders {
  devices = record { addr = 3; speed = speeds.High; eps = text_of 1 (5 ∷ []) ∷ text_of 2 (7 ∷ 9 ∷ []) ∷ out_text ∷ [] } ∷ [];
  endpoints = (desc_of 1).name ∷ second.name ∷ out_second.name ∷ [];
  lines = (7, lines.Command (commands.OpenEp second)) ∷ (8, lines.Command (commands.OpenEp out_second)) ∷ [];
}
