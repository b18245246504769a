-- Laws of what the report of a world tells of OUT endpoints (USB 2.0, 8.5 and 8.6).
--     ClosingTellsTaker     the closing line of an OUT endpoint tells what its taker took
--     TakesEach ..          what is told of each OUT endpoint of a driver begins what its taker took
--     ReportIsTaken         then it begins what the closing line tells
use Rattle.std.specs.Prelude.{◌≡◌, ℕ, true, false, List, slice_get, Option, Some, option_map}
use Rattle.usb_base.specs.declared.endpoints.EpDesc.{EpDesc}
use Rattle.usb_base.specs.declared.packets.Way.TheVariants.{Out}
use Rattle.script_types.specs.declared.scripts.Script.{Script}
use Rattle.bus_wire.specs.Bus.{Fixed}
use Rattle.law_ring.specs.OutBus.{Taker}
use Rattle.law_devices.specs.scripted_takers.Takers.{taker_of}
use Rattle.claims_report.specs.Reports.{taken}
use Rattle.claims_report.specs.Streams.{has_stream}
use Rattle.drv_table.specs.declared.content.Endpoint.{Endpoint}
use Rattle.drv_table.specs.DriverContent.{opened}
use Rattle.claims_driver.specs.Scripts.{receives}
use Rattle.law_driver.specs.chained_transfers.Asynchronous.{OnlyAsynchronous}
use Rattle.law_queues.specs.told_endpoints.Telling.{named_in, TellsEach}
use Rattle.bus_world.specs.World.{World}
use Rattle.law_world.specs.steps.Streaming.{wired}
use Rattle.claims_world.specs.Streams.{report_of, IsToldTaken}
use Rattle.law_world.specs.streams.Asynchronous.{AreTakenStreams}
use Rattle.law_world.specs.streams.taken_reports.Seats.{HasSeat, AreApart, IsSeatedBus}

abbrev pub ClosingTellsTaker : Type 0
ClosingTellsTaker = (fixed : Fixed) (w : World) (x : EpDesc) (t : Taker) → x.name.way ≡ Out → has_stream x.kind ≡ true → HasSeat fixed.seats x → AreApart w.bus.devices
    → opened w.driver x.name ≡ true → taker_of (wired fixed w) x.name.addr x.name.num ≡ Some t → taken (report_of fixed w) x.name ≡ Some t.taken

abbrev pub bytes_taken : Option Taker → Option (List ℕ)
bytes_taken o = option_map (λ t. t.taken) o

abbrev pub TakesEach : Fixed → World → (ℕ → List ℕ) → Type 0
TakesEach fixed w told = (e : ℕ) (x : Endpoint) → slice_get w.driver.endpoints e ≡ Some x → receives x.desc.name.way ≡ false
    → IsToldTaken (told e) (bytes_taken (taker_of (wired fixed w) x.desc.name.addr x.desc.name.num))

abbrev pub ReportIsTaken : Type 0
ReportIsTaken = (s : Script) (fixed : Fixed) (w : World) (held told : ℕ → List ℕ) → IsSeatedBus s fixed w.bus → OnlyAsynchronous w.driver
    → TellsEach w.driver.reports w.driver.store (named_in w.driver.endpoints) held told → TakesEach fixed w told → AreTakenStreams s (report_of fixed w)
