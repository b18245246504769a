-- An endpoint with a stream, below a hub, at an event of the controller, in a world with endpoints of every kind (EHCI 1.0, 4.6 to 4.12;
-- USB 2.0, 8.6, 11.17 and 11.18).
--     AsksItsWay part way      the active qTDs of an IN endpoint's queue head are INs, and those of an OUT endpoint's are OUTs
--     AskTheirWays s d         so it is of each endpoint that is met
--     IsWatched d kind way e y y is an endpoint of this kind that is met, whose number no control endpoint of its device has
--     ControllerKeepsWays, ControllerKeepsOutBelow, ControllerKeepsInBelow
--                              so does each event; for an IN no request may clear the hub's buffers,
--                              and the host of an interrupt endpoint must be in time
--     IsUnasked d way x        no endpoint that is met, and no isochronous one, has the name of x: it wasn't opened yet, or has left
--     ControllerLeavesOut, ControllerLeavesIn
--                              what hub and device have of it stays as it must
use Rattle.std.specs.Prelude.{◌≡◌, ℕ, ◌*◌, Bool, true, false, List, ◌++◌, slice_get, Option, Some}
use Rattle.usb_base.specs.declared.packets.Dir.TheVariants as Directions
use Rattle.usb_base.specs.declared.packets.EpKind.{EpKind}
use Rattle.usb_base.specs.declared.packets.Way.{Way}
use Rattle.usb_base.specs.declared.packets.Way.TheVariants as ways
use Rattle.bus_wire.specs.Bus.{Fixed}
use Rattle.claims_report.specs.Streams.{has_stream}
use Rattle.drv_table.specs.declared.content.Endpoint.{Endpoint}
use Rattle.drv_table.specs.DriverContent.{DriverContent}
use Rattle.drv_table.specs.Kinds.{is_iso}
use Rattle.law_driver.specs.queued_drivers.Queued.{queued_endpoint, queued}
use Rattle.law_structures.specs.lent_structures.Structures.{Structures}
use Rattle.law_ring.specs.OutPipes.{IsOut}
use Rattle.law_ring.specs.Pipes.{IsIn}
use Rattle.law_ring.specs.Told.{Endpoint as Told}
use Rattle.law_driver_ring.specs.fed_queues.Places.{IsMet}
use Rattle.law_descriptors.specs.Both.{both}
use Rattle.law_descriptors.specs.queue_events.Streams.{bytes_of_both}
use Rattle.law_below_hubs.specs.HostEvents.{hand_host, told_key, IsOutBehind, IsInBehind, StartsFindNoneTold, KeepsSent}
use Rattle.law_below_hubs.specs.HostEvents.{AsksInTime, StaysInTime, SparesKeyNow}
use Rattle.law_below_hubs.specs.HostIns.{InSide}
use Rattle.law_below_hubs.specs.HostOuts.{OutSide}
use Rattle.law_world.specs.steps.Streaming.{wired}
use Rattle.law_world.specs.memory.Mixed.{Standing}
use Rattle.law_world.specs.memory.Steps.{standing_then, IsMixedControlled}
use Rattle.law_microframes.specs.visits.WorldPipes.{EventOf}
use Rattle.bus_world.specs.World.{World, controller_next}
use Rattle.law_reports.specs.lines.Lined.{in_hand, Lines}
use Rattle.law_reports.specs.pipes.Declared.{Sides}
use Rattle.law_reports.specs.pipes.Piped.{Heads, asked_as, IsPiped}

abbrev pub AsksItsWay : Structures → Way → Type 0
AsksItsWay part ways.In = IsIn part
AsksItsWay part ways.Out = IsOut part
AsksItsWay part ways.Ctl = Unit {0}

abbrev pub AskTheirWays : Standing → DriverContent → Type 0
AskTheirWays s d = (e : ℕ) (y : Endpoint) → slice_get d.endpoints e ≡ Some y → IsMet (queued d) e (queued_endpoint y)
    → AsksItsWay (s.parts (32 * y.queue)) y.desc.name.way

pub record IsWatched (d : DriverContent) (kind : EpKind) (way : Way) (e : ℕ) (y : Endpoint) : Type 0 where
  pub here : slice_get d.endpoints e ≡ Some y
  pub met : IsMet (queued d) e (queued_endpoint y)
  pub kind_is : y.desc.kind ≡ kind
  pub way_is : y.desc.name.way ≡ way
  pub alone : (f : ℕ) (v : Endpoint) → slice_get d.endpoints f ≡ Some v → v.desc.name.way ≡ ways.Ctl
      → v.desc.name.addr ≡ y.desc.name.addr → v.desc.name.num ≡ y.desc.name.num → ⊥

abbrev pub ControllerKeepsWays : Type 0
ControllerKeepsWays = (fixed : Fixed) (x : Sides) (s : Standing) (m : Lines) (h : Heads) (w : World) → IsPiped fixed x s m h w
    → (c : IsMixedControlled fixed s w) → AskTheirWays s w.driver
    → AskTheirWays (standing_then s w c.event) (controller_next fixed w).driver

abbrev pub ControllerKeepsOutBelow : Type 0
ControllerKeepsOutBelow = (fixed : Fixed) (x : Sides) (s : Standing) (m : Lines) (h : Heads) (w : World) → IsPiped fixed x s m h w
    → AskTheirWays s w.driver → (c : IsMixedControlled fixed s w) → (z : EventOf fixed s w c.event) → (e : ℕ) (y : Endpoint)
    → (kind : EpKind) → has_stream kind ≡ true → IsWatched w.driver kind ways.Out e y → (i place : ℕ) (known : List ℕ)
    → StartsFindNoneTold kind (asked_as y.desc) i place (32 * y.queue) (both s.descs s.parts) w.control.frame s.frame (wired fixed w)
    (wired fixed (controller_next fixed w)) c.event.frame_later
    → (k : IsOutBehind kind (wired fixed w) i place known s.parts (in_hand s) (32 * y.queue) (asked_as y.desc))
    → (b : IsOutBehind kind (wired fixed (controller_next fixed w)) i place (known ++ bytes_of_both (32 * y.queue) z)
    (standing_then s w c.event).parts (in_hand (standing_then s w c.event)) (32 * y.queue) (asked_as y.desc))
    × KeepsSent (s.parts (32 * y.queue)) ((standing_then s w c.event).parts (32 * y.queue)) k.queue.token.active k.host.next b.host.next
    (bytes_of_both (32 * y.queue) z)

abbrev pub ControllerKeepsInBelow : Type 0
ControllerKeepsInBelow = (fixed : Fixed) (x : Sides) (s : Standing) (m : Lines) (h : Heads) (w : World) → IsPiped fixed x s m h w
    → AskTheirWays s w.driver → (c : IsMixedControlled fixed s w) → (z : EventOf fixed s w c.event) → (e : ℕ) (y : Endpoint)
    → (kind : EpKind) → has_stream kind ≡ true → IsWatched w.driver kind ways.In e y → (packets : List (List ℕ)) (i place : ℕ)
    (timely still : Bool) (known : List ℕ)
    → AsksInTime kind (asked_as y.desc) i place (32 * y.queue) timely (both s.descs s.parts) w.control.frame s.frame (wired fixed w)
    (wired fixed (controller_next fixed w)) c.event.frame_later
    → SparesKeyNow (told_key kind Directions.In (asked_as y.desc)) i place (wired fixed w) (wired fixed (controller_next fixed w))
    → (b : IsInBehind kind packets (wired fixed w) i place timely known s.parts (in_hand s) (32 * y.queue) (asked_as y.desc))
    → StaysInTime z (hand_host (in_hand s) (32 * y.queue) b.queue) timely still
    → IsInBehind kind packets (wired fixed (controller_next fixed w)) i place still (known ++ bytes_of_both (32 * y.queue) z)
    (standing_then s w c.event).parts (in_hand (standing_then s w c.event)) (32 * y.queue) (asked_as y.desc)

pub record IsUnasked (d : DriverContent) (way : Way) (x : Told) : Type 0 where
  pub data_apart : (f : ℕ) (v : Endpoint) → slice_get d.endpoints f ≡ Some v → IsMet (queued d) f (queued_endpoint v)
      → v.desc.name.way ≡ way → v.desc.name.addr ≡ x.addr → v.desc.name.num ≡ x.ep → ⊥
  pub control_apart : (f : ℕ) (v : Endpoint) → slice_get d.endpoints f ≡ Some v → IsMet (queued d) f (queued_endpoint v)
      → v.desc.name.way ≡ ways.Ctl → v.desc.name.addr ≡ x.addr → v.desc.name.num ≡ x.ep → ⊥
  pub iso_apart : (f : ℕ) (v : Endpoint) → slice_get d.endpoints f ≡ Some v → is_iso v.desc.kind ≡ true
      → v.desc.name.way ≡ way → v.desc.name.addr ≡ x.addr → v.desc.name.num ≡ x.ep → ⊥

abbrev pub ControllerLeavesOut : Type 0
ControllerLeavesOut = (fixed : Fixed) (x : Sides) (s : Standing) (m : Lines) (h : Heads) (w : World) → IsPiped fixed x s m h w
    → AskTheirWays s w.driver → (c : IsMixedControlled fixed s w) → EventOf fixed s w c.event → (t : Told)
    → IsUnasked w.driver ways.Out t → (kind : EpKind) → has_stream kind ≡ true → (i place : ℕ) (toggle waiting : Bool) (known : List ℕ)
    (next : Option (List ℕ))
    → OutSide (told_key kind Directions.Out t) i place (wired fixed w) toggle waiting known next
    → OutSide (told_key kind Directions.Out t) i place (wired fixed (controller_next fixed w)) toggle waiting known next

-- its host doesn't wait
abbrev pub ControllerLeavesIn : Type 0
ControllerLeavesIn = (fixed : Fixed) (x : Sides) (s : Standing) (m : Lines) (h : Heads) (w : World) → IsPiped fixed x s m h w
    → AskTheirWays s w.driver → (c : IsMixedControlled fixed s w) → EventOf fixed s w c.event → (t : Told)
    → IsUnasked w.driver ways.In t → (kind : EpKind) → has_stream kind ≡ true → (packets : List (List ℕ)) (i place : ℕ)
    (toggle going timely : Bool) (known : List ℕ)
    → SparesKeyNow (told_key kind Directions.In t) i place (wired fixed w) (wired fixed (controller_next fixed w))
    → InSide packets (told_key kind Directions.In t) i place (wired fixed w) toggle false going timely known
    → InSide packets (told_key kind Directions.In t) i place (wired fixed (controller_next fixed w)) toggle false going timely known
