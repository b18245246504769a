-- The numbers, the ways and the packets of a script's endpoints by their transfer type (USB 2.0, 5.3.1.2, 5.5.3 and 8.3.2.2).
--     IsZero name          number 0, with both ways: the control endpoint that each device has
--     IsOneWay name        a number from 1 to 15, with one way
--     IsNameOf kind name   a name of an endpoint of this type
--     HasItsName x         the endpoint has a name of its type, and if it is a control endpoint packets of at most 64 bytes, at high speed of just 64
--     NamesLine line       where the line opens an endpoint, it has such a name
--     NamesEndpoints s     all endpoints that the script declares have such names, and all that it opens
use Rattle.std.specs.Prelude.{◌≡◌, ◌≢◌, ◌≤◌}
use Rattle.std.specs.List.{AllByRecursion}
use Rattle.usb_base.specs.declared.commands.Cmd.TheVariants as commands
use Rattle.usb_base.specs.declared.endpoints.EpDesc.{EpDesc}
use Rattle.usb_base.specs.declared.endpoints.EpName.{EpName}
use Rattle.usb_base.specs.declared.packets.EpKind.{EpKind}
use Rattle.usb_base.specs.declared.packets.EpKind.TheVariants as kinds
use Rattle.usb_base.specs.declared.packets.Speed.TheVariants as speeds
use Rattle.usb_base.specs.declared.packets.Way.TheVariants as ways
use Rattle.script_types.specs.declared.scripts.Line.{Line}
use Rattle.script_types.specs.declared.scripts.Line.TheVariants as lines
use Rattle.script_types.specs.declared.scripts.Script.{Script}

pub record IsZero (name : EpName) : Type 0 where
  pub number : name.num ≡ 0
  pub way : name.way ≡ ways.Ctl

pub record IsOneWay (name : EpName) : Type 0 where
  pub least : 1 ≤ name.num
  pub most : name.num ≤ 15
  pub way : name.way ≢ ways.Ctl

abbrev pub IsNameOf : EpKind → EpName → Type 0
IsNameOf kinds.Control name = IsZero name
IsNameOf kinds.Bulk name = IsOneWay name
IsNameOf kinds.Interrupt name = IsOneWay name
IsNameOf kinds.Iso name = IsOneWay name

pub record HasItsName (x : EpDesc) : Type 0 where
  pub name : IsNameOf x.kind x.name
  pub most : x.kind ≡ kinds.Control → x.max ≤ 64
  pub high : x.kind ≡ kinds.Control → x.speed ≡ speeds.High → x.max ≡ 64

abbrev pub NamesLine : Line → Type 0
NamesLine (lines.Command (commands.OpenEp x)) = HasItsName x
NamesLine _ = Unit {0}

pub record NamesEndpoints (s : Script) : Type 0 where
  pub declared : AllByRecursion (λ device. AllByRecursion (λ text. HasItsName text.desc) device.eps) s.devices
  pub opened : AllByRecursion (λ line. NamesLine line.1) s.lines
