-- What a script has for its control endpoints, and what its commands ask of them (USB 2.0, 5.5, 8.5.3 and 9.4).
--     is_of_device s x         x is a control endpoint, and no hub's own: a hub answers by its own state, and not by lines of the script
--     sides_of s               for these endpoints the sides of the devices before its first line, the replies that its lines give, and the data of the requests
--     GivesCommand g cmd       the control endpoint that the command opens, if any, is one of them; and the request that it makes, if any, is whole
use Rattle.std.specs.Prelude.{◌≡◌, Bool, true, false, ◌&&◌, not, refl}
use Rattle.usb_base.specs.declared.commands.Cmd.{Cmd}
use Rattle.usb_base.specs.declared.commands.Cmd.TheVariants as commands
use Rattle.script_types.specs.declared.scripts.Script.{Script}
use Rattle.usb_base.specs.declared.endpoints.EpDesc.{EpDesc}
use Rattle.drv_table.specs.Words.{is_control}
use Rattle.bus_wire.specs.Bus.{opening_wired}
use Rattle.claims_report.specs.Requests.{data_of}
use Rattle.claims_report.specs.Controls.{is_of_hub}
use Rattle.law_devices.specs.Controls.{control_of}
use Rattle.law_devices.specs.declared_controls.Opened.{endpoint_of}
use Rattle.law_devices.specs.declared_controls.Requests.{AsksCommand}
use Rattle.law_reports.specs.requests.Asking.{Sides, IsGiven}

abbrev pub is_of_device : Script → EpDesc → Bool
is_of_device s x = is_control x.kind && not (is_of_hub s x.name.addr)

pub its_kind : (a b : Bool) → (a && b) ≡ true → a ≡ true
its_kind true b on = refl
its_kind false b on = on

abbrev pub sides_of : Script → Sides
sides_of s = record { asks = is_of_device s; controls = λ x on. its_kind (is_control x.kind) (not (is_of_hub s x.name.addr)) on; speeds = λ speed. true; first = control_of (opening_wired s); endpoint = endpoint_of s; whole = data_of s }

abbrev pub GivesOpened : Sides → Cmd → Type 0
GivesOpened g (commands.OpenEp x) = g.asks x ≡ true → IsGiven g x
GivesOpened g _ = Unit {0}

pub record GivesCommand (g : Sides) (cmd : Cmd) : Type 0 where
  pub opened : GivesOpened g cmd
  pub asks : AsksCommand cmd
