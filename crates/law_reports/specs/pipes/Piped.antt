-- The streams of the endpoints at high speed of a world with endpoints of every kind (EHCI 1.0, 4.6 to 4.11; USB 2.0, 5.7, 5.8, 8.5 and
-- 8.6): both sides of the pipe of each bulk and interrupt endpoint that a walk may meet agree, whatever else is open; what moved of one
-- that left began its stream; and of one that wasn't opened yet nothing moved.
--     Heads                    the queue heads of the IN endpoints that have a stream, and of the OUT ones; and the endpoint of each queue
--                              head that is met, as it is asked by its own speed, hub and port
--     asked_as x               the endpoint as its queue head asks it (3.6.2)
--     AreEndsNamed d ends      each endpoint that is met has its own name, speed, hub and port
--     IsOpening d y            the endpoint is being opened
--     AreFresh d way has P     P holds of each name of this way that has a stream, but of those of endpoints that were opened
--     IsNewHead s n x          the queue head at n is that of endpoint x, and begins with DATA0 and a start-split; nothing of it is active
--     HaveNewHeads d s         so is that of one that is being opened, once it was lent
--     HasBegun x wire way addr ep bytes
--                              these bytes begin the packets of the device that sends, or what the device has that takes
--     AreLeft d .. way has P   so it is of what moved of each endpoint that isn't met any more, and of what is told of one that was given
--                              back
--     IsPiped fixed x s m h w  all this of the world w, but of those that left
--     HasPiped fixed x w       .. for some standing, lines and queue heads
--     IsFollowed, HasFollowed  .. with those that left
use Rattle.std.specs.Prelude.{◌≡◌, ℕ, ◌*◌, Bool, true, false, List, slice_get, Option, Some}
use Rattle.std.specs.List.{concat}
use Rattle.usb_base.specs.declared.endpoints.EpDesc.{EpDesc}
use Rattle.usb_base.specs.declared.packets.Way.{Way}
use Rattle.usb_base.specs.declared.packets.Way.TheVariants as ways
use Rattle.bus_wire.specs.Bus.{Wired, Fixed}
use Rattle.claims_base.specs.Prefix.{IsPrefix}
use Rattle.qh_qtd.specs.declared.qtd.Qtd.{Qtd}
use Rattle.qh_qtd.specs.declared.queue_head.Qh.{Qh}
use Rattle.claims_report.specs.Streams.{told_in}
use Rattle.drv_table.specs.declared.content.Command.TheVariants as unfinished
use Rattle.drv_table.specs.declared.content.Endpoint.{Endpoint}
use Rattle.drv_table.specs.DriverContent.{DriverContent}
use Rattle.drv_table.specs.Kinds.{is_iso}
use Rattle.drv_table.specs.Words.{queue_head}
use Rattle.law_driver.specs.endpoint_lives.Lives.{may_meet}
use Rattle.law_driver.specs.queued_drivers.Queued.{queued_endpoint, queued}
use Rattle.law_structures.specs.lent_structures.Structures.{QueueHead, Element}
use Rattle.law_ring.specs.Told.{Endpoint as Told, endpoint_of, HasToggle, HasEndpoint}
use Rattle.law_ring.specs.OutBus.{Taker}
use Rattle.law_controller.specs.controlled_streams.Unopened.{IsUntouched}
use Rattle.law_driver_ring.specs.fed_queues.Places.{IsThere, IsMet}
use Rattle.law_below_hubs.specs.HostEvents.{hand_host}
use Rattle.law_queues.specs.told_endpoints.Telling.{lines_in}
use Rattle.law_devices.specs.Senders.{sender_of}
use Rattle.law_devices.specs.scripted_takers.Takers.{taker_of}
use Rattle.law_world.specs.steps.Outs.{IsUntaken}
use Rattle.law_world.specs.steps.Streaming.{wired}
use Rattle.law_world.specs.memory.Mixed.{Standing, IsMixedAt}
use Rattle.law_world.specs.memory.pipe_steps.Pipes.{PipesStand, AreByWay}
use Rattle.law_reports.specs.lines.Lined.{in_hand, Lines, IsTelling, AreIsoGoing}
use Rattle.bus_world.specs.World.{World}
use Rattle.law_reports.specs.pipes.Declared.{Sides, AreDeclared}
use Rattle.law_reports.specs.pipes.DescriptorNames.{AreDescriptorsNamed}

-- ---- the queue heads

pub record Heads : Type 0 where
  pub ins : ℕ → Bool
  pub outs : ℕ → Bool
  pub ends : ℕ → Told

-- neither its links nor its masks are of that
abbrev pub asked_as : EpDesc → Told
asked_as x = endpoint_of (queue_head x 0 0)

abbrev pub AreEndsNamed : DriverContent → (ℕ → Told) → Type 0
AreEndsNamed d ends = (e : ℕ) (y : Endpoint) → slice_get d.endpoints e ≡ Some y → IsMet (queued d) e (queued_endpoint y)
    → ends (32 * y.queue) ≡ asked_as y.desc

-- ---- endpoints that weren't opened yet

pub record IsOpening (d : DriverContent) (y : Endpoint) : Type 0 where
  pub kept : y.gone ≡ false
  pub queue : is_iso y.desc.kind ≡ false
  pub command : (queued d).command ≡ Some (unfinished.Open y.queue)

-- each endpoint of this name and way is being opened, or there is none
abbrev pub IsUnused : DriverContent → Way → ℕ → ℕ → Type 0
IsUnused d way addr ep = (e : ℕ) (y : Endpoint) → slice_get d.endpoints e ≡ Some y → y.desc.name.way ≡ way → y.desc.name.addr ≡ addr
    → y.desc.name.num ≡ ep → IsOpening d y

abbrev pub AreFresh : DriverContent → Way → (ℕ → ℕ → Bool) → (ℕ → ℕ → Type 0) → Type 0
AreFresh d way has P = (addr ep : ℕ) → has addr ep ≡ true → IsUnused d way addr ep → P addr ep

pub record IsNewHead (s : Standing) (n : ℕ) (x : Told) : Type 0 where
  pub named : HasEndpoint s.parts n x
  -- data toggle control (3.6.2): a control endpoint's packets have the toggles of their qTDs
  pub first : x.dtc ≡ false → HasToggle (in_hand s) s.parts n false
  pub starts : (q : Qh) → s.parts n n ≡ Some (QueueHead q) → (hand_host (in_hand s) n q).waiting ≡ false
  pub idle : (a : ℕ) (u : Qtd) → s.parts n a ≡ Some (Element u) → u.token.active ≡ true → ⊥

abbrev pub HaveNewHeads : DriverContent → Standing → Type 0
HaveNewHeads d s = (e : ℕ) (y : Endpoint) → slice_get d.endpoints e ≡ Some y → IsOpening d y → (queued d).made ≡ 1
    → IsNewHead s (32 * y.queue) (asked_as y.desc)

-- ---- endpoints that left

pub record HasTakenAtLeast (o : Option Taker) (bytes : List ℕ) : Type 0 where
  pub taker : Taker
  pub is : o ≡ Some taker
  pub begins : IsPrefix bytes taker.taken

abbrev pub HasBegun : Sides → Wired → Way → ℕ → ℕ → List ℕ → Type 0
HasBegun x wire ways.In addr ep bytes = IsPrefix bytes (concat (x.packets addr ep))
HasBegun x wire ways.Out addr ep bytes = HasTakenAtLeast (taker_of wire addr ep) bytes
HasBegun x wire ways.Ctl addr ep bytes = Unit {0}

pub record AreLeft (d : DriverContent) (acc : ℕ → List (List ℕ)) (way : Way) (has : ℕ → ℕ → Bool)
    (P : ℕ → ℕ → List ℕ → Type 0) : Type 0 where
  -- it left the ring, and Async Advance was cleared (4.8.2)
  pub unmet : (e : ℕ) (y : Endpoint) → slice_get d.endpoints e ≡ Some y → y.desc.name.way ≡ way
      → has y.desc.name.addr y.desc.name.num ≡ true → IsThere (queued d) (queued_endpoint y)
      → may_meet (queued d) e (queued_endpoint y) ≡ false → P y.desc.name.addr y.desc.name.num (concat (acc (32 * y.queue)))
  pub gone : (e : ℕ) (y : Endpoint) → slice_get d.endpoints e ≡ Some y → y.desc.name.way ≡ way
      → has y.desc.name.addr y.desc.name.num ≡ true → y.gone ≡ true
      → P y.desc.name.addr y.desc.name.num (told_in d.store (lines_in y.desc.name d.reports))

-- ---- the whole

pub record IsPiped (fixed : Fixed) (x : Sides) (s : Standing) (m : Lines) (h : Heads) (w : World) : Type 0 where
  pub mixed : IsMixedAt s w
  pub telling : IsTelling s m w
  pub going : AreIsoGoing w.driver
  pub declared : AreDeclared x w.driver
  -- isochronous transactions ask none of the streams, so
  pub descriptors : AreDescriptorsNamed w.driver w.memory
  pub named : AreEndsNamed w.driver h.ends
  pub by_way : AreByWay (queued w.driver) x.sends x.takes h.ins h.outs h.ends
  pub pipes : PipesStand x.sends x.takes x.packets sender_of taker_of s.near h.ins h.outs h.ends m.acc s.parts (in_hand s) (wired fixed w)
  pub new_heads : HaveNewHeads w.driver s
  pub fresh_ins : AreFresh w.driver ways.In x.sends (λ addr ep. IsUntouched (x.packets addr ep) (sender_of (wired fixed w) addr ep))
  pub fresh_outs : AreFresh w.driver ways.Out x.takes (λ addr ep. IsUntaken (taker_of (wired fixed w) addr ep))

pub record HasPiped (fixed : Fixed) (x : Sides) (w : World) : Type 0 where
  pub standing : Standing
  pub lines : Lines
  pub heads : Heads
  pub piped : IsPiped fixed x standing lines heads w

-- .. and what is known of the endpoints that left
pub record IsFollowed (fixed : Fixed) (x : Sides) (s : Standing) (m : Lines) (h : Heads) (w : World) : Type 0 where
  pub piped : IsPiped fixed x s m h w
  pub left_ins : AreLeft w.driver m.acc ways.In x.sends (HasBegun x (wired fixed w) ways.In)
  pub left_outs : AreLeft w.driver m.acc ways.Out x.takes (HasBegun x (wired fixed w) ways.Out)

pub record HasFollowed (fixed : Fixed) (x : Sides) (w : World) : Type 0 where
  pub standing : Standing
  pub lines : Lines
  pub heads : Heads
  pub followed : IsFollowed fixed x standing lines heads w
