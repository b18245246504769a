-- What a report tells at its end, and what it tells of bytes that a device took (EHCI 1.0, 4.10; USB 2.0, 5.8 and 8.6): parts of what is
-- claimed of streams (HighStreams.antt), of requests and of pending transfers.
--     closings_of fixed w              the lines that close it
--     report_of fixed w                the whole report
--     IsToldTaken told taken           what is told begins what was taken; where nothing says what was taken, nothing is told
--     IsTakenStream r name             so it is of an endpoint of the report; no line follows its end, and nothing is pending behind that
--     IsTakenSent taken stream         what was taken begins the stream; where nothing says what was taken, nothing is asked of it
use Rattle.std.specs.List.{flat_map}
use Rattle.std.specs.Prelude.{◌≡◌, ℕ, ◌==◌, true, nat_lt, if◌then◌else◌, List, [], ◌++◌, ◌∷◌, find, Option, Some, None}
use Rattle.usb_base.specs.declared.endpoints.EpName.{EpName}
use Rattle.usb_base.specs.declared.packets.EpKind.{EpKind}
use Rattle.usb_base.specs.declared.packets.EpKind.TheVariants.{Bulk, Interrupt}
use Rattle.usb_base.specs.declared.packets.Way.{Way}
use Rattle.usb_base.specs.declared.packets.Way.TheVariants.{Out, Ctl}
use Rattle.endpoint_script.specs.Device.{Device, taken_of, acted_of}
use Rattle.drv_table.specs.DriverContent.{opened as driver_opened}
use Rattle.hub_class.specs.HubContent.{HubContent}
use Rattle.bus_wire.specs.declared.seats.Seat.{Seat}
use Rattle.bus_wire.specs.Bus.{Fixed}
use Rattle.claims_report.specs.Reports.{Closing, Pending, WholeReport, lines_of, Taken, Acted, taken}
use Rattle.claims_report.specs.Streams.{told, ends_once, stream, ends_whole}
use Rattle.bus_world.specs.Closing.{waiting, hub_of}
use Rattle.bus_world.specs.World.{World}
use Rattle.claims_base.specs.Prefix.{IsPrefix}

abbrev pub waiting_closing : EpName → ℕ → List Closing
waiting_closing name k = if nat_lt 0 k then Pending name k ∷ [] else []

abbrev pub device_closing : Way → EpKind → EpName → Device → List Closing
device_closing Out Bulk name d = Taken name (taken_of d name) ∷ []
device_closing Out Interrupt name d = Taken name (taken_of d name) ∷ []
device_closing Ctl _ name d = Acted name (acted_of d name) ∷ []
device_closing _ _ name d = []

abbrev pub hub_closing : EpName → Option HubContent → List Closing
hub_closing name None = []
hub_closing name (Some h) = Acted name h.control.acted ∷ []

abbrev pub told_closing : Seat → Option Device → Option HubContent → List Closing
told_closing s None h = hub_closing s.name h
told_closing s (Some d) h = device_closing s.name.way s.kind s.name d

abbrev pub opened_closings : World → Seat → List Closing
opened_closings w s = waiting_closing s.name (waiting w.driver s.name) ++ told_closing s (find (λ d. d.address == s.name.addr) w.bus.devices) (hub_of w.bus s.name)

abbrev pub seat_closings : World → Seat → List Closing
seat_closings w s = if driver_opened w.driver s.name then opened_closings w s else []

abbrev pub closings_of : Fixed → World → List Closing
closings_of fixed w = flat_map (seat_closings w) fixed.seats

abbrev pub report_of : Fixed → World → WholeReport
report_of fixed w = record { lines = w.driver.reports; store = w.driver.store; closings = closings_of fixed w }

abbrev pub IsToldTaken : List ℕ → Option (List ℕ) → Type 0
IsToldTaken told None = told ≡ []
IsToldTaken told (Some taken) = IsPrefix told taken

-- before its open an endpoint has no closing line, and nothing is told of it
pub record IsTakenStream (r : WholeReport) (name : EpName) : Type 0 where
  pub bytes : IsToldTaken (told r name) (taken r name)
  pub once : ends_once (lines_of r name) ≡ true
  pub whole : ends_whole r name ≡ true

abbrev pub IsTakenSent : Option (List ℕ) → List ℕ → Type 0
IsTakenSent None stream = Unit {0}
IsTakenSent (Some taken) stream = IsPrefix taken stream
