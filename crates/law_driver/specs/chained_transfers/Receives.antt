-- Scripts that only receive (USB 2.0, 5.8): of scripts of bulk endpoints those of IN endpoints alone.
--     IsReceiving x            the endpoint is a high-speed bulk IN one
--     OpensReceiving cmd       if the command opens an endpoint, it is such a one; other commands may be any
--     ReceivesOnly s           so is each command of the script
use Rattle.std.specs.Prelude.{◌≡◌}
use Rattle.std.specs.List.{AllByRecursion}
use Rattle.usb_base.specs.declared.commands.Cmd.{Cmd}
use Rattle.usb_base.specs.declared.commands.Cmd.TheVariants as commands
use Rattle.usb_base.specs.declared.endpoints.EpDesc.{EpDesc}
use Rattle.usb_base.specs.declared.packets.EpKind.TheVariants as kinds
use Rattle.usb_base.specs.declared.packets.Speed.TheVariants as speeds
use Rattle.usb_base.specs.declared.packets.Way.TheVariants as ways
use Rattle.script_types.specs.declared.scripts.Line.{Line}
use Rattle.script_types.specs.declared.scripts.Line.TheVariants as lines
use Rattle.script_types.specs.declared.scripts.Script.{Script}

pub record IsReceiving (x : EpDesc) : Type 0 where
  pub kind : x.kind ≡ kinds.Bulk
  pub speed : x.speed ≡ speeds.High
  pub way : x.name.way ≡ ways.In

abbrev pub OpensReceiving : Cmd → Type 0
OpensReceiving (commands.OpenEp x) = IsReceiving x
OpensReceiving _ = Unit {0}

abbrev pub ReceivesLine : Line → Type 0
ReceivesLine (lines.Command cmd) = OpensReceiving cmd
ReceivesLine _ = Unit {0}

abbrev pub ReceivesOnly : Script → Type 0
ReceivesOnly s = AllByRecursion (λ line. ReceivesLine line.1) s.lines
