-- The control endpoints of devices that a script opens (USB 2.0, 5.5, 8.5.3 and 9.4).
--     endpoint_of s x      such an endpoint as its requests see it: the device's replies are those of the script
--     stages_of s x        its stages before the first SETUP, with all NAKs that its lines give it
--     HasItsControl s x    where x is a high-speed control endpoint of a device, the bus of the script has it, with these replies, at these stages
--     OpensControls s      so it is of each endpoint that the script opens
use Rattle.std.specs.Prelude.{◌≡◌, false, Some}
use Rattle.std.specs.List.{AllByRecursion}
use Rattle.usb_base.specs.declared.commands.Cmd.TheVariants as commands
use Rattle.usb_base.specs.declared.endpoints.EpDesc.{EpDesc}
use Rattle.usb_base.specs.declared.packets.EpKind.TheVariants as kinds
use Rattle.usb_base.specs.declared.packets.Speed.TheVariants as speeds
use Rattle.dev_control.specs.Stages.{Stages, opened}
use Rattle.script_types.specs.declared.scripts.Line.{Line}
use Rattle.script_types.specs.declared.scripts.Line.TheVariants as lines
use Rattle.script_types.specs.declared.scripts.Script.{Script}
use Rattle.endpoint_script.specs.Items.{naks_of, requests_of}
use Rattle.bus_wire.specs.Bus.{opening_wired}
use Rattle.claims_report.specs.Streams.{items_of}
use Rattle.law_request.specs.Host.{Endpoint}
use Rattle.law_request.specs.Scripted.{scripted}
use Rattle.law_devices.specs.request_calls.Bus.{device_of}
use Rattle.claims_report.specs.Controls.{is_of_hub}
use Rattle.law_devices.specs.Controls.{control_of}

abbrev pub endpoint_of : Script → EpDesc → Endpoint
endpoint_of s x = scripted x.name.addr x.name.num x.max (requests_of (items_of s x.name))

abbrev pub stages_of : Script → EpDesc → Stages
stages_of s x = opened x.max (naks_of (items_of s x.name))

abbrev pub HasItsControl : Script → EpDesc → Type 0
HasItsControl s x =
    x.kind ≡ kinds.Control → x.speed ≡ speeds.High → is_of_hub s x.name.addr ≡ false
    → control_of (opening_wired s) x.name.addr x.name.num ≡ Some (device_of (endpoint_of s x) (stages_of s x))

abbrev pub OpensItsControl : Script → Line → Type 0
OpensItsControl s (lines.Command (commands.OpenEp x)) = HasItsControl s x
OpensItsControl s _ = Unit {0}

abbrev pub OpensControls : Script → Type 0
OpensControls s = AllByRecursion (λ line. OpensItsControl s line.1) s.lines
