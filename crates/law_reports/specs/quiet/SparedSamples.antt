-- A script for worked rows, and two endpoints: one line asks hub 9 to clear a buffer; a stick at full speed behind it has a bulk endpoint, IN,
-- and a control endpoint.
use Rattle.std.specs.Prelude.{[], ◌∷◌}
use Rattle.usb_base.specs.declared.commands.Cmd.TheVariants as commands
use Rattle.usb_base.specs.declared.endpoints.EpDesc.{EpDesc}
use Rattle.usb_base.specs.declared.packets.EpKind.TheVariants as kinds
use Rattle.usb_base.specs.declared.packets.Speed.TheVariants as speeds
use Rattle.usb_base.specs.declared.packets.Way.TheVariants as ways
use Rattle.script_types.specs.declared.scripts.Line.TheVariants as lines
use Rattle.script_types.specs.declared.scripts.Script.{Script}
use Rattle.law_opened.specs.Samples.{beside_split, board}

-- (USB 2.0, 11.24.2.3)
abbrev pub clears_buffer : Script
clears_buffer = record beside_split {
  lines = (
    5,
    lines.Command (commands.Control (record { addr = 9; num = 0; way = ways.Ctl }) (35 ∷ 8 ∷ 0 ∷ 0 ∷ 1 ∷ 0 ∷ 0 ∷ 0 ∷ []) []),
  ) ∷ [];
}

abbrev pub stick : EpDesc
stick = record board { speed = speeds.Full; kind = kinds.Bulk; max = 64; period = 0 }

abbrev pub asker : EpDesc
asker = record stick { name = record { addr = 1; num = 0; way = ways.Ctl }; kind = kinds.Control; max = 8 }
