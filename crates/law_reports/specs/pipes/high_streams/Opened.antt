-- The endpoints of a script's driver are among those that its lines open.
--     OpensOf s cmd         where the command opens an endpoint, a line of the script does
--     AreOpened s d         each endpoint of the driver is opened by a line of the script
--     MomentsAreOpened      so it is at each moment of a script
use Rattle.std.specs.Prelude.{◌≡◌, ℕ, slice_get, Some}
use Rattle.usb_base.specs.declared.commands.Cmd.{Cmd}
use Rattle.usb_base.specs.declared.commands.Cmd.TheVariants as commands
use Rattle.script_types.specs.declared.scripts.Script.{Script}
use Rattle.script_fits.specs.Fits.{IsFit}
use Rattle.drv_table.specs.declared.content.Endpoint.{Endpoint}
use Rattle.drv_table.specs.DriverContent.{DriverContent}
use Rattle.law_opened.specs.Opened.{IsOpened}
use Rattle.bus_world.specs.Budgets.{moment}

abbrev pub OpensOf : Script → Cmd → Type 0
OpensOf s (commands.OpenEp x) = IsOpened s x
OpensOf s _ = Unit {0}

abbrev pub AreOpened : Script → DriverContent → Type 0
AreOpened s d = (e : ℕ) (x : Endpoint) → slice_get d.endpoints e ≡ Some x → IsOpened s x.desc

abbrev pub MomentsAreOpened : Type 0
MomentsAreOpened = (s : Script) → IsFit s → (k : ℕ) → AreOpened s (moment s k).world.driver
