-- Laws of what the report of a world says that the devices of OUT endpoints took (EHCI 1.0, 4.10; USB 2.0, 5.8.3, 8.5 and 8.6).
--     HasNamedTaker fixed w name      an OUT of this name has a taker on the bus
--     HaveTheirTakers fixed w       so has each OUT endpoint of the driver
--     TakesPuts fixed w puts        and what it took begins the endpoint's puts
--     ReportIsSent                  of bulk and control endpoints: where the puts begin the streams, what the closing lines say was taken begins them
--     ReportEndsRight                 once no order is left, all streams of the report are right then, where those of IN endpoints are, and where what is told of
--                                   OUT endpoints begins what was taken
use Rattle.std.specs.Prelude.{◌≡◌, ℕ, false, List, [], slice_get, Some}
use Rattle.std.specs.List.{concat}
use Rattle.usb_base.specs.declared.endpoints.EpName.{EpName}
use Rattle.script_types.specs.declared.scripts.Script.{Script}
use Rattle.claims_base.specs.Prefix.{IsPrefix}
use Rattle.bus_wire.specs.Bus.{Fixed, fixed_of}
use Rattle.law_ring.specs.OutBus.{Taker}
use Rattle.law_devices.specs.scripted_takers.Takers.{taker_of}
use Rattle.claims_report.specs.Samples.{AreRightStreams}
use Rattle.drv_table.specs.declared.content.Endpoint.{Endpoint}
use Rattle.claims_driver.specs.Scripts.{receives}
use Rattle.law_driver.specs.AsynchronousScripts.{AsynchronousOnly}
use Rattle.law_driver.specs.chained_transfers.Asynchronous.{OnlyAsynchronous}
use Rattle.bus_world.specs.World.{World}
use Rattle.bus_world.specs.Orders.{OrderedWorld}
use Rattle.law_world.specs.steps.Streaming.{wired}
use Rattle.claims_world.specs.Streams.{report_of}
use Rattle.law_world.specs.streams.Asynchronous.{AreRightInStreams, AreTakenStreams, AreSentStreams}
use Rattle.law_world.specs.streams.taken_reports.Seats.{IsSeatedBus}
use Rattle.law_world.specs.streams.put_laws.TakenPuts.{puts_of}
use Rattle.law_world.specs.streams.put_laws.TakenLaws.{StreamsArePuts}

pub record HasNamedTaker (fixed : Fixed) (w : World) (name : EpName) : Type 0 where
  pub taker : Taker
  pub is : taker_of (wired fixed w) name.addr name.num ≡ Some taker

abbrev pub HaveTheirTakers : Fixed → World → Type 0
HaveTheirTakers fixed w = (e : ℕ) (x : Endpoint) → slice_get w.driver.endpoints e ≡ Some x → receives x.desc.name.way ≡ false → HasNamedTaker fixed w x.desc.name

abbrev pub TakesPuts : Fixed → World → (ℕ → List ℕ) → Type 0
TakesPuts fixed w puts = (e : ℕ) (x : Endpoint) (t : Taker) → slice_get w.driver.endpoints e ≡ Some x → receives x.desc.name.way ≡ false
    → taker_of (wired fixed w) x.desc.name.addr x.desc.name.num ≡ Some t → IsPrefix t.taken (concat (puts_of w.driver puts e))

abbrev pub ReportIsSent : Type 0
ReportIsSent = (s : Script) (p : OrderedWorld) (puts : ℕ → List ℕ) → AsynchronousOnly s → IsSeatedBus s (fixed_of s) p.world.bus → StreamsArePuts s p puts → OnlyAsynchronous p.world.driver
    → HaveTheirTakers (fixed_of s) p.world → TakesPuts (fixed_of s) p.world puts → AreSentStreams s (report_of (fixed_of s) p.world)

abbrev pub ReportEndsRight : Type 0
ReportEndsRight = (s : Script) (p : OrderedWorld) (puts : ℕ → List ℕ) → AsynchronousOnly s → IsSeatedBus s (fixed_of s) p.world.bus → StreamsArePuts s p puts
    → HaveTheirTakers (fixed_of s) p.world → TakesPuts (fixed_of s) p.world puts → p.orders ≡ [] → AreRightInStreams s (report_of (fixed_of s) p.world)
    → AreTakenStreams s (report_of (fixed_of s) p.world) → AreRightStreams s (report_of (fixed_of s) p.world)
