-- What the report of a moment tells of a control endpoint, each claim from its premise (USB 2.0, 8.5.3).
--     ReportNumbers        at the end of a run the windows of the driver's transfers are those of the script's requests
--     ReportTells          what a driver's lines tell, its report tells
--     ReportCounts         the closing line counts the windows with an act, where the device's stages do
--     ReportOfRequests     all of it together: the requests of the endpoint are right
use Rattle.std.specs.Prelude.{◌≡◌, ℕ, ◌≤◌, true, min, List, [], length, map, filter, slice_get, Some}
use Rattle.std.specs.List.{AllByRecursion}
use Rattle.usb_base.specs.declared.endpoints.EpDesc.{EpDesc}
use Rattle.usb_base.specs.declared.endpoints.EpName.{EpName}
use Rattle.usb_base.specs.declared.packets.Way.TheVariants.{Ctl}
use Rattle.script_types.specs.declared.scripts.Script.{Script}
use Rattle.claims_report.specs.Acts.{IsOnce}
use Rattle.claims_report.specs.ControlSides.{Device as Side}
use Rattle.law_devices.specs.Controls.{control_of}
use Rattle.bus_wire.specs.Bus.{Fixed, fixed_of}
use Rattle.claims_report.specs.Reports.{lines_of, acted}
use Rattle.claims_report.specs.Requests.{Request, Window, data_of, requests, has_acted, AreTold, AreRightRequests}
use Rattle.drv_table.specs.declared.content.Endpoint.{Endpoint}
use Rattle.drv_table.specs.DriverContent.{opened}
use Rattle.drv_table.specs.Words.{is_control}
use Rattle.bus_world.specs.World.{World}
use Rattle.bus_world.specs.Budgets.{moment}
use Rattle.claims_world.specs.Streams.{report_of}
use Rattle.law_world.specs.streams.taken_reports.Seats.{HasSeat, AreApart}
use Rattle.law_world.specs.streams.put_laws.TakenLines.{NumbersRise}
use Rattle.claims_world.specs.Requests.{wired, Windows, asks_at, windows_of}
use Rattle.law_reports.specs.requests.told_requests.Told.{RequestsAreToldTo}

abbrev pub ReportNumbers : Type 0
ReportNumbers = (s : Script) (k e : ℕ) (x : Endpoint) (v : Windows) → NumbersRise s → (moment s k).orders ≡ [] → slice_get (moment s k).world.driver.endpoints e ≡ Some x → is_control x.desc.kind ≡ true
    → map (λ w. w.request) (windows_of (moment s k).world.driver (asks_at s k) v e) ≡ requests s (report_of (fixed_of s) (moment s k).world) x.desc.name

abbrev pub ReportTells : Type 0
ReportTells = (fixed : Fixed) (w : World) (name : EpName) (whole : Request → List ℕ) (ws left : List Window) → RequestsAreToldTo w.driver name whole ws left
    → AreTold whole (report_of fixed w).store ws (lines_of (report_of fixed w) name)

-- how often the device of this endpoint acted, as its control stages count: no further than 2 ^ 32 - 1
pub record CountsActs (fixed : Fixed) (w : World) (x : EpDesc) (ws : List Window) : Type 0 where
  pub way : x.name.way ≡ Ctl
  pub seat : HasSeat fixed.seats x
  pub apart : AreApart w.bus.devices
  pub is_open : opened w.driver x.name ≡ true
  pub device : Side
  pub is : control_of (wired fixed w) x.name.addr x.name.num ≡ Some device
  pub counts : device.stages.acted ≡ min (length (filter has_acted ws)) 4294967295
  pub few : length ws ≤ 4294967295

abbrev pub ReportCounts : Type 0
ReportCounts = (fixed : Fixed) (w : World) (x : EpDesc) (ws : List Window) → CountsActs fixed w x ws → acted (report_of fixed w) x.name ≡ Some (length (filter has_acted ws))

abbrev pub ReportOfRequests : Type 0
ReportOfRequests = (s : Script) (k e : ℕ) (x : Endpoint) (v : Windows) (left : List Window) → NumbersRise s → (moment s k).orders ≡ []
    → slice_get (moment s k).world.driver.endpoints e ≡ Some x → is_control x.desc.kind ≡ true
    → AllByRecursion (λ w. IsOnce w.request.setup w.acts) (windows_of (moment s k).world.driver (asks_at s k) v e)
    → RequestsAreToldTo (moment s k).world.driver x.desc.name (data_of s x.desc.name) (windows_of (moment s k).world.driver (asks_at s k) v e) left
    → CountsActs (fixed_of s) (moment s k).world x.desc (windows_of (moment s k).world.driver (asks_at s k) v e)
    → AreRightRequests s (report_of (fixed_of s) (moment s k).world) x.desc.name (windows_of (moment s k).world.driver (asks_at s k) v e)
