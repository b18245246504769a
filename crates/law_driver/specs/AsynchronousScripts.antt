-- Scripts whose endpoints are those of the asynchronous schedule (EHCI 1.0, 4.8): high-speed bulk endpoints, IN or OUT, and high-speed
-- control endpoints (USB 2.0, 5.5 and 5.8).
--     IsKindOf way kind       an endpoint of this way is of this kind
--     IsAsynchronous x        the endpoint is one of them
--     OpensAsynchronous cmd   if the command opens an endpoint, it is one of them; other commands, cancels too, may be any
--     AsynchronousOnly s      so is each that the script opens
use Rattle.std.specs.List.{AllByRecursion}
use Rattle.std.specs.Prelude.{◌≡◌}
use Rattle.usb_base.specs.declared.commands.Cmd.{Cmd}
use Rattle.usb_base.specs.declared.commands.Cmd.TheVariants as commands
use Rattle.usb_base.specs.declared.endpoints.EpDesc.{EpDesc}
use Rattle.usb_base.specs.declared.packets.EpKind.{EpKind}
use Rattle.usb_base.specs.declared.packets.EpKind.TheVariants as kinds
use Rattle.usb_base.specs.declared.packets.Speed.TheVariants as speeds
use Rattle.usb_base.specs.declared.packets.Way.{Way}
use Rattle.usb_base.specs.declared.packets.Way.TheVariants as ways
use Rattle.script_types.specs.declared.scripts.Line.{Line}
use Rattle.script_types.specs.declared.scripts.Line.TheVariants as lines
use Rattle.script_types.specs.declared.scripts.Script.{Script}

abbrev pub IsKindOf : Way → EpKind → Type 0
IsKindOf ways.Ctl kind = kind ≡ kinds.Control
IsKindOf ways.In kind = kind ≡ kinds.Bulk
IsKindOf ways.Out kind = kind ≡ kinds.Bulk

pub record IsAsynchronous (x : EpDesc) : Type 0 where
  pub kind : IsKindOf x.name.way x.kind
  pub speed : x.speed ≡ speeds.High

abbrev pub OpensAsynchronous : Cmd → Type 0
OpensAsynchronous (commands.OpenEp x) = IsAsynchronous x
OpensAsynchronous _ = Unit {0}

abbrev pub AsynchronousLine : Line → Type 0
AsynchronousLine (lines.Command cmd) = OpensAsynchronous cmd
AsynchronousLine _ = Unit {0}

abbrev pub AsynchronousOnly : Script → Type 0
AsynchronousOnly s = AllByRecursion (λ line. AsynchronousLine line.1) s.lines
