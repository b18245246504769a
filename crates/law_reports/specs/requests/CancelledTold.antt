-- What the lines of a cancelled control endpoint tell, but for the one of its cancel (EHCI 1.0, 4.8.2 and 4.10; USB 2.0, 8.5.3).
--     before_cancel lines                the lines but those of a cancel
--     IsToldBefore d asks v whole e x    they tell of the first windows of endpoint e, which is x, in their order
--     CancelledAreTold g w v asks        so it is of each of these control endpoints that was cancelled
--     DriverKeepsCancelled, ControllerKeepsCancelled, CommandKeepsCancelled
--                                        each event and each command leaves it
--     TextsTellOfCancelled               so it is at each moment of each script that a text spells
use Rattle.std.specs.Prelude.{◌≡◌, ℕ, true, not, List, filter, slice_get, Some}
use Rattle.usb_base.specs.declared.commands.Cmd.{Cmd}
use Rattle.usb_base.specs.declared.endpoints.EpName.{EpName}
use Rattle.usb_base.specs.declared.reports.Report.{Report}
use Rattle.script_types.specs.declared.scripts.Script.{Script}
use Rattle.script_text.specs.Faults.{Spells}
use Rattle.bus_wire.specs.Bus.{Fixed}
use Rattle.bus_world.specs.Budgets.{moment}
use Rattle.bus_world.specs.World.{World, driver_next, controller_next, commanded}
use Rattle.claims_report.specs.Requests.{Request, AreTold}
use Rattle.claims_world.specs.Pending.{is_cancel}
use Rattle.claims_world.specs.Requests.{Windows, windows_of, asks_then, after_event, windows_at, asks_at}
use Rattle.drv_table.specs.declared.content.Endpoint.{Endpoint}
use Rattle.drv_table.specs.DriverContent.{DriverContent}
use Rattle.drv_table.specs.Words.{is_control}
use Rattle.law_driver.specs.queued_drivers.Queued.{queued_desc}
use Rattle.law_queues.specs.told_endpoints.Telling.{lines_in}
use Rattle.law_reports.specs.pipes.Declared.{Sides as Pipes}
use Rattle.law_reports.specs.requests.Asking.{Sides}
use Rattle.law_reports.specs.requests.HighAsking.{HasHighAsks}
use Rattle.law_reports.specs.requests.HighGiven.{high_sides_of}

abbrev pub before_cancel : List Report → List Report
before_cancel lines = filter (λ line. not (is_cancel line.what)) lines

abbrev pub IsToldBefore : DriverContent → (ℕ → Request) → Windows → (EpName → Request → List ℕ) → ℕ → Endpoint → Type 0
IsToldBefore d asks v whole e x =
    AreTold (whole x.desc.name) d.store (windows_of d asks v e) (before_cancel (lines_in x.desc.name d.reports))

pub record CancelledAreTold (g : Sides) (w : World) (v : Windows) (asks : ℕ → Request) : Type 0 where
  pub each : (e : ℕ) (x : Endpoint) → slice_get w.driver.endpoints e ≡ Some x → is_control x.desc.kind ≡ true
      → g.asks (queued_desc x.desc) ≡ true → x.cancelled ≡ true → IsToldBefore w.driver asks v g.whole e x

abbrev pub DriverKeepsCancelled : Type 0
DriverKeepsCancelled = (g : Sides) (fixed : Fixed) (p : Pipes) (v : Windows) (asks : ℕ → Request) (w : World)
    → HasHighAsks g fixed p v asks w → CancelledAreTold g w v asks → CancelledAreTold g (driver_next w) v asks

abbrev pub ControllerKeepsCancelled : Type 0
ControllerKeepsCancelled = (g : Sides) (fixed : Fixed) (p : Pipes) (v : Windows) (asks : ℕ → Request) (w : World)
    → HasHighAsks g fixed p v asks w → HasHighAsks g fixed p (after_event fixed w v) asks (controller_next fixed w)
    → CancelledAreTold g w v asks → CancelledAreTold g (controller_next fixed w) (after_event fixed w v) asks

abbrev pub CommandKeepsCancelled : Type 0
CommandKeepsCancelled = (g : Sides) (fixed : Fixed) (p : Pipes) (v : Windows) (asks : ℕ → Request) (w : World) (line : ℕ) (cmd : Cmd)
    → HasHighAsks g fixed p v asks w → HasHighAsks g fixed p v (asks_then w.driver cmd asks) (commanded w line cmd)
    → CancelledAreTold g w v asks → CancelledAreTold g (commanded w line cmd) v (asks_then w.driver cmd asks)

abbrev pub TextsTellOfCancelled : Type 0
TextsTellOfCancelled = (text : List ℕ) (s : Script) → Spells text s → (k : ℕ)
    → CancelledAreTold (high_sides_of s) (moment s k).world (windows_at s k) (asks_at s k)
