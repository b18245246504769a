-- What the report of a world tells of the streams of bulk and interrupt endpoints at high speed, where their pipes agree and what was put
-- is sent in order (EHCI 1.0, 4.10; USB 2.0, 5.8, 8.5 and 8.6).
--     IsHigh s x                   something is claimed of x: it is a bulk or interrupt endpoint at high speed
--     InsBegin s m w               what was moved of each such IN endpoint begins its packets, also once it left the schedule; of one that
--                                  was given back what its lines tell does so
--     OutsBegin s m w              what was moved of each such OUT endpoint begins what its device took; of one that was given back what
--                                  its lines tell does so
--     TakersBegin s puts w         each of these has its taker on the bus, and what this took begins the endpoint's puts
--     HasHighReport s w            what is told of the queues of w stands, and its endpoints are those that the script opened
--     HighReportsAreRight          then the IN streams of its report are right
--     HighReportsAreTaken          .. what is told of OUT endpoints begins what was taken
--     HighReportsAreSent           .. and this begins what was put
--     HighReportsEndRight          .. and once no line is left to do, all streams of the report are right
use Rattle.std.specs.Prelude.{◌≡◌, ℕ, ◌*◌, true, false, List, [], slice_get, Some}
use Rattle.std.specs.List.{concat}
use Rattle.script_types.specs.declared.scripts.Script.{Script}
use Rattle.endpoint_script.specs.Items.{packets_of}
use Rattle.usb_base.specs.declared.endpoints.EpDesc.{EpDesc}
use Rattle.usb_base.specs.declared.packets.Speed.TheVariants.{High}
use Rattle.bus_wire.specs.Bus.{fixed_of}
use Rattle.claims_base.specs.Prefix.{IsPrefix}
use Rattle.claims_report.specs.Streams.{items_of, told_in, has_stream}
use Rattle.claims_driver.specs.Scripts.{receives, comes_in}
use Rattle.claims_world.specs.Streams.{report_of, IsToldTaken}
use Rattle.drv_table.specs.declared.content.Endpoint.{Endpoint}
use Rattle.law_ring.specs.OutBus.{Taker}
use Rattle.law_devices.specs.scripted_takers.Takers.{taker_of}
use Rattle.law_driver.specs.queued_drivers.Queued.{queued_endpoint, queued}
use Rattle.law_driver_ring.specs.fed_queues.Places.{IsThere}
use Rattle.law_queues.specs.told_endpoints.Telling.{lines_in}
use Rattle.law_world.specs.steps.Streaming.{wired}
use Rattle.law_world.specs.streams.put_laws.TakenLaws.{StreamsArePuts}
use Rattle.law_world.specs.streams.put_laws.TakenPuts.{puts_of}
use Rattle.law_world.specs.streams.sending_worlds.ReportLaws.{HasNamedTaker}
use Rattle.law_world.specs.streams.taken_reports.Laws.{bytes_taken}
use Rattle.law_world.specs.streams.taken_reports.Seats.{IsSeatedBus}
use Rattle.bus_world.specs.Orders.{OrderedWorld}
use Rattle.bus_world.specs.World.{World}
use Rattle.law_reports.specs.lines.Lined.{Lines}
use Rattle.law_reports.specs.lines.TellingLaws.{IsToldWorld}
use Rattle.claims_world.specs.HighStreams.{claimed, AreHighInStreams, AreHighTakenStreams}
use Rattle.claims_world.specs.HighStreams.{AreHighSentStreams, AreHighStreams}
use Rattle.law_opened.specs.Opened.{OpensOnce, OpensFit}
use Rattle.law_reports.specs.pipes.high_streams.Opened.{AreOpened}

pub record IsHigh (s : Script) (x : EpDesc) : Type 0 where
  pub on : claimed s x ≡ true
  pub stream : has_stream x.kind ≡ true
  pub speed : x.speed ≡ High

-- ---- what is known of their pipes

pub record InsBegin (s : Script) (m : Lines) (w : World) : Type 0 where
  pub there : (e : ℕ) (x : Endpoint) → slice_get w.driver.endpoints e ≡ Some x → IsHigh s x.desc → comes_in x.desc.name.way ≡ true
      → IsThere (queued w.driver) (queued_endpoint x)
      → IsPrefix (concat (m.acc (32 * x.queue))) (concat (packets_of (items_of s x.desc.name)))
  pub gone : (e : ℕ) (x : Endpoint) → slice_get w.driver.endpoints e ≡ Some x → IsHigh s x.desc → comes_in x.desc.name.way ≡ true
      → x.gone ≡ true
      → IsPrefix (told_in w.driver.store (lines_in x.desc.name w.driver.reports)) (concat (packets_of (items_of s x.desc.name)))

pub record OutsBegin (s : Script) (m : Lines) (w : World) : Type 0 where
  pub there : (e : ℕ) (x : Endpoint) → slice_get w.driver.endpoints e ≡ Some x → IsHigh s x.desc → receives x.desc.name.way ≡ false
      → IsThere (queued w.driver) (queued_endpoint x)
      → IsToldTaken (concat (m.acc (32 * x.queue))) (bytes_taken (taker_of (wired (fixed_of s) w) x.desc.name.addr x.desc.name.num))
  pub gone : (e : ℕ) (x : Endpoint) → slice_get w.driver.endpoints e ≡ Some x → IsHigh s x.desc → receives x.desc.name.way ≡ false
      → x.gone ≡ true
      → IsToldTaken (told_in w.driver.store (lines_in x.desc.name w.driver.reports))
      (bytes_taken (taker_of (wired (fixed_of s) w) x.desc.name.addr x.desc.name.num))

pub record TakersBegin (s : Script) (puts : ℕ → List ℕ) (w : World) : Type 0 where
  pub takers : (e : ℕ) (x : Endpoint) → slice_get w.driver.endpoints e ≡ Some x → IsHigh s x.desc → receives x.desc.name.way ≡ false
      → HasNamedTaker (fixed_of s) w x.desc.name
  pub begin : (e : ℕ) (x : Endpoint) (t : Taker) → slice_get w.driver.endpoints e ≡ Some x → IsHigh s x.desc
      → receives x.desc.name.way ≡ false → taker_of (wired (fixed_of s) w) x.desc.name.addr x.desc.name.num ≡ Some t
      → IsPrefix t.taken (concat (puts_of w.driver puts e))

-- ---- a moment of a run

pub record HasHighReport (s : Script) (w : World) : Type 0 where
  pub told : IsToldWorld w
  pub opened : AreOpened s w.driver
  pub once : OpensOnce s
  pub fits : OpensFit s
  pub seated : IsSeatedBus s (fixed_of s) w.bus

abbrev pub HighReportsAreRight : Type 0
HighReportsAreRight = (s : Script) (w : World) → (h : HasHighReport s w) → InsBegin s h.told.lines w
    → AreHighInStreams s (report_of (fixed_of s) w)

abbrev pub HighReportsAreTaken : Type 0
HighReportsAreTaken = (s : Script) (w : World) → (h : HasHighReport s w) → OutsBegin s h.told.lines w
    → AreHighTakenStreams s (report_of (fixed_of s) w)

abbrev pub HighReportsAreSent : Type 0
HighReportsAreSent = (s : Script) (p : OrderedWorld) (puts : ℕ → List ℕ) → HasHighReport s p.world → TakersBegin s puts p.world
    → StreamsArePuts s p puts → AreHighSentStreams s (report_of (fixed_of s) p.world)

abbrev pub HighReportsEndRight : Type 0
HighReportsEndRight = (s : Script) (p : OrderedWorld) (puts : ℕ → List ℕ) → (h : HasHighReport s p.world)
    → InsBegin s h.told.lines p.world → OutsBegin s h.told.lines p.world → TakersBegin s puts p.world
    → StreamsArePuts s p puts → p.orders ≡ [] → AreHighStreams s (report_of (fixed_of s) p.world)
