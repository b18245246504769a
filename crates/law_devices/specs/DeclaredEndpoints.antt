-- The senders of the endpoints that a script opens (USB 2.0, 5.8 and 8.6).
--     HasItsSender s x     where x is a high-speed bulk IN endpoint, the bus of the script has its sender, with all packets that its lines give it, and DATA0
--                          comes first
--     OpensSenders s       so it is of each endpoint that the script opens
use Rattle.std.specs.Prelude.{◌≡◌, false, Some}
use Rattle.std.specs.List.{AllByRecursion}
use Rattle.usb_base.specs.declared.commands.Cmd.TheVariants as commands
use Rattle.usb_base.specs.declared.endpoints.EpDesc.{EpDesc}
use Rattle.usb_base.specs.declared.packets.EpKind.TheVariants as kinds
use Rattle.usb_base.specs.declared.packets.Speed.TheVariants as speeds
use Rattle.usb_base.specs.declared.packets.Way.TheVariants as ways
use Rattle.script_types.specs.declared.scripts.Line.{Line}
use Rattle.script_types.specs.declared.scripts.Line.TheVariants as lines
use Rattle.script_types.specs.declared.scripts.Script.{Script}
use Rattle.endpoint_script.specs.Items.{packets_of}
use Rattle.bus_wire.specs.Bus.{opening_wired}
use Rattle.claims_report.specs.Streams.{items_of}
use Rattle.law_devices.specs.Senders.{sender_of}

abbrev pub HasItsSender : Script → EpDesc → Type 0
HasItsSender s x =
    x.kind ≡ kinds.Bulk → x.speed ≡ speeds.High → x.name.way ≡ ways.In
    → sender_of (opening_wired s) x.name.addr x.name.num ≡ Some (record { left = packets_of (items_of s x.name); sends = false })

abbrev pub OpensItsSender : Script → Line → Type 0
OpensItsSender s (lines.Command (commands.OpenEp x)) = HasItsSender s x
OpensItsSender s _ = Unit {0}

abbrev pub OpensSenders : Script → Type 0
OpensSenders s = AllByRecursion (λ line. OpensItsSender s line.1) s.lines
