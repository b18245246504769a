-- What the driver of a world with endpoints of every kind has still to send of the puts to its OUT endpoints, and what of it the devices at
-- high speed took (EHCI 1.0, 3.5.4 and 4.10; USB 2.0, 5.7, 5.8, 8.5 and 8.6). An interrupt endpoint and one behind a hub are told as bulk
-- ones at high speed, by their queues.
--     IsSentOut s n            the active qTDs of the queue head at n are OUTs, sent whole and in turn
--     AreOutsWhole s d         so it is of each OUT endpoint that is there, at whatever speed
--     watched x wire addr ep   the taker of an endpoint at high speed
--     HaveTakers fixed x w     each of these is on the bus
--     Pays fixed x s m puts w  besides: the queue heads of those that have ended are halted; the buffers of puts hold their bytes; what was
--                              reported of each, and behind that what is still to be sent, are its puts; and what was taken of each at high
--                              speed begins them, also of one that left; `puts` tells the bytes of puts by the number of the transfer
--     HasPaid fixed x puts w   the streams of the world w stand, and all this, for some standing, lines and queue heads
use Rattle.std.specs.Prelude.{◌≡◌, ℕ, ◌*◌, true, List, slice_get, Option, Some, None, if◌then◌else◌}
use Rattle.usb_base.specs.declared.packets.Way.TheVariants as ways
use Rattle.bus_wire.specs.Bus.{Wired, Fixed}
use Rattle.drv_table.specs.declared.content.Endpoint.{Endpoint}
use Rattle.drv_table.specs.DriverContent.{DriverContent}
use Rattle.law_driver.specs.queued_drivers.Queued.{queued_endpoint, queued}
use Rattle.law_ring.specs.OutBus.{Taker}
use Rattle.law_ring.specs.OutPipes.{IsOut}
use Rattle.law_driver_ring.specs.fed_queues.Places.{IsThere}
use Rattle.law_devices.specs.scripted_takers.Takers.{taker_of}
use Rattle.law_queues.specs.whole_sends.Whole.{AreSentWhole}
use Rattle.law_world.specs.steps.Streaming.{wired}
use Rattle.law_world.specs.memory.Mixed.{Standing}
use Rattle.law_world.specs.streams.put_laws.HeldPuts.{HoldsPuts}
use Rattle.law_world.specs.streams.put_laws.Owed.{Owes}
use Rattle.law_world.specs.streams.put_laws.OwedTaken.{TakenBegin, EndedAreStopped}
use Rattle.law_world.specs.streams.sending_worlds.ReportLaws.{HasNamedTaker}
use Rattle.law_reports.specs.lines.Lined.{in_hand, Lines}
use Rattle.law_reports.specs.pipes.Declared.{Sides}
use Rattle.law_reports.specs.pipes.Piped.{Heads, IsPiped}
use Rattle.bus_world.specs.World.{World}

pub record IsSentOut (s : Standing) (n : ℕ) : Type 0 where
  pub outs : IsOut (s.parts n)
  pub whole : AreSentWhole (s.order n) (s.out n) (in_hand s) n (s.parts n)

abbrev pub AreOutsWhole : Standing → DriverContent → Type 0
AreOutsWhole s d = (e : ℕ) (y : Endpoint) → slice_get d.endpoints e ≡ Some y → IsThere (queued d) (queued_endpoint y)
    → y.desc.name.way ≡ ways.Out → IsSentOut s (32 * y.queue)

abbrev pub watched : Sides → Wired → ℕ → ℕ → Option Taker
watched x wire addr ep = if x.takes addr ep then taker_of wire addr ep else None

abbrev pub HaveTakers : Fixed → Sides → World → Type 0
HaveTakers fixed x w = (e : ℕ) (y : Endpoint) → slice_get w.driver.endpoints e ≡ Some y → y.desc.name.way ≡ ways.Out
    → x.takes y.desc.name.addr y.desc.name.num ≡ true → HasNamedTaker fixed w y.desc.name

pub record Pays (fixed : Fixed) (x : Sides) (s : Standing) (m : Lines) (puts : ℕ → List ℕ) (w : World) : Type 0 where
  pub outs : AreOutsWhole s w.driver
  pub ended : EndedAreStopped (queued w.driver) s.parts
  pub held : HoldsPuts (queued w.driver) w.memory puts
  pub owes : Owes (queued w.driver) w.memory puts m.reported
  pub begin : TakenBegin (watched x) (queued w.driver) puts (wired fixed w)
  pub takers : HaveTakers fixed x w

pub record HasPaid (fixed : Fixed) (x : Sides) (puts : ℕ → List ℕ) (w : World) : Type 0 where
  pub standing : Standing
  pub lines : Lines
  pub heads : Heads
  pub piped : IsPiped fixed x standing lines heads w
  pub pays : Pays fixed x standing lines puts w
