-- Bulk and interrupt OUT endpoints below hubs in a world with endpoints of every kind (EHCI 1.0, 4.6 to 4.12; USB 2.0, 8.6, 11.14, 11.17
-- and 11.18): host, hub and device of each stand as they must, before it is opened, while its queue head is met, and once it left; and what
-- is sent of each begins what was put to it, with the packet that may be on its way, also behind the endpoint's end.
--     Spots                 by address and number: which OUT endpoints are ones with a stream below a hub, of which kind, at which
--                           translator of which hub; and the hubs of the script
--     IsSpot o d            the endpoint so described is at its spot
--     AreSpots o d          so is each endpoint of a driver
--     sent_in known next    what was sent of an endpoint: the bytes that the host knows to be taken, and the packet behind them
--     out_at kind addr ep   the key of an OUT endpoint; its_key: of that at a spot
--     IsUnsent .. addr ep   nothing was sent of it
--     Within puts d addr ep bytes
--                           these bytes begin what was put to the endpoint of this name
--     HasLeft o wire In addr ep bytes
--                           hub and device of an endpoint that isn't asked any more: these bytes are known to be taken, and what was sent
--                           is In
--     IsMetOut ..           one that is met: all three stand as they must
--     AreInsRight s d       the active qTDs of each IN endpoint that is there are INs
--     IsBehind fixed o s m puts w     all this of the world w
--     HasBehind fixed x o puts w      .. for some standing, lines and queue heads
use Rattle.std.specs.Prelude.{◌≡◌, ℕ, ◌*◌, Bool, true, false, List, [], ◌++◌, slice_get, Option, Some, None}
use Rattle.std.specs.List.{concat}
use Rattle.usb_base.specs.declared.endpoints.EpDesc.{EpDesc}
use Rattle.usb_base.specs.declared.packets.Dir.TheVariants as Directions
use Rattle.usb_base.specs.declared.packets.EpKind.{EpKind}
use Rattle.usb_base.specs.declared.packets.EpKind.TheVariants as kinds
use Rattle.usb_base.specs.declared.packets.Way.{Way}
use Rattle.usb_base.specs.declared.packets.Way.TheVariants as ways
use Rattle.hub_keys.specs.declared.key.Key.{Key}
use Rattle.hub_class.specs.HubContent.{HubContent}
use Rattle.bus_wire.specs.Bus.{Wired, Fixed}
use Rattle.claims_base.specs.Prefix.{IsPrefix}
use Rattle.claims_world.specs.BelowStreams.{is_out_below}
use Rattle.drv_table.specs.declared.content.Endpoint.{Endpoint}
use Rattle.drv_table.specs.DriverContent.{DriverContent}
use Rattle.law_driver.specs.queued_drivers.Queued.{queued_endpoint, queued}
use Rattle.law_ring.specs.Pipes.{IsIn}
use Rattle.law_driver_ring.specs.fed_queues.Places.{IsThere, IsMet}
use Rattle.law_below_hubs.specs.HostEvents.{IsOutBehind}
use Rattle.law_below_hubs.specs.HostOuts.{OutSide}
use Rattle.law_below_hubs.specs.Splits.{IsAtHub}
use Rattle.law_world.specs.steps.Streaming.{wired}
use Rattle.law_world.specs.streams.put_laws.TakenPuts.{puts_of}
use Rattle.law_world.specs.memory.Mixed.{Standing}
use Rattle.bus_world.specs.World.{World}
use Rattle.law_reports.specs.lines.Lined.{in_hand, Lines}
use Rattle.law_reports.specs.pipes.Declared.{Sides}
use Rattle.law_reports.specs.pipes.Piped.{Heads, asked_as, AreFresh, AreLeft, IsPiped}
use Rattle.law_reports.specs.pipes.puts.Paid.{Pays}
use Rattle.law_reports.specs.quiet.Errors.{PublishesLeft}

-- ---- where the endpoints are

pub record Spots : Type 0 where
  pub has : ℕ → ℕ → Bool
  pub periodic : ℕ → ℕ → Bool  -- an interrupt endpoint, else a bulk one
  pub hub : ℕ → ℕ → ℕ  -- its place among the hubs
  pub place : ℕ → ℕ → ℕ  -- that of its translator
  pub hubs : List HubContent

abbrev pub stream_kind : Bool → EpKind
stream_kind true = kinds.Interrupt
stream_kind false = kinds.Bulk

abbrev pub kind_at : Spots → ℕ → ℕ → EpKind
kind_at o addr ep = stream_kind (o.periodic addr ep)

pub record IsOutSpot (o : Spots) (d : EpDesc) : Type 0 where
  pub out : o.has d.name.addr d.name.num ≡ true → is_out_below d ≡ true
  pub kind : o.has d.name.addr d.name.num ≡ true → d.kind ≡ kind_at o d.name.addr d.name.num
  pub hub : o.has d.name.addr d.name.num ≡ true
      → IsAtHub o.hubs (asked_as d).hub (asked_as d).port (o.hub d.name.addr d.name.num) (o.place d.name.addr d.name.num)

-- a control endpoint has no stream (USB 2.0, 5.5)
abbrev pub IsSpotBy : Spots → EpDesc → Way → Type 0
IsSpotBy o d ways.In = Unit {0}
IsSpotBy o d ways.Out = IsOutSpot o d
IsSpotBy o d ways.Ctl = o.has d.name.addr d.name.num ≡ false

abbrev pub IsSpot : Spots → EpDesc → Type 0
IsSpot o d = IsSpotBy o d d.name.way

abbrev pub AreSpots : Spots → DriverContent → Type 0
AreSpots o d = (e : ℕ) (y : Endpoint) → slice_get d.endpoints e ≡ Some y → IsSpot o y.desc

-- ---- what was sent

abbrev pub sent_in : List ℕ → Option (List ℕ) → List ℕ
sent_in known None = known
sent_in known (Some x) = known ++ x

abbrev pub out_at : EpKind → ℕ → ℕ → Key
out_at kind addr ep = record { addr = addr; ep = ep; dir = Directions.Out; kind = kind }

abbrev pub its_key : Spots → ℕ → ℕ → Key
its_key o addr ep = out_at (kind_at o addr ep) addr ep

abbrev pub IsUnsent : Spots → Wired → ℕ → ℕ → Type 0
IsUnsent o wire addr ep = OutSide (its_key o addr ep) (o.hub addr ep) (o.place addr ep) wire false false [] None

abbrev pub Within : (ℕ → List ℕ) → DriverContent → ℕ → ℕ → List ℕ → Type 0
Within puts d addr ep bytes = (e : ℕ) (y : Endpoint) → slice_get d.endpoints e ≡ Some y → y.desc.name.way ≡ ways.Out
    → y.desc.name.addr ≡ addr → y.desc.name.num ≡ ep → IsPrefix bytes (concat (puts_of (queued d) puts e))

-- the hub may work on, so the device takes the packet that is on its way, too
pub record HasLeft (o : Spots) (wire : Wired) (In : ℕ → ℕ → List ℕ → Type 0) (addr ep : ℕ) (bytes : List ℕ) : Type 0 where
  pub toggle : Bool
  pub waiting : Bool
  pub known : List ℕ
  pub next : Option (List ℕ)
  pub side : OutSide (its_key o addr ep) (o.hub addr ep) (o.place addr ep) wire toggle waiting known next
  pub begins : IsPrefix bytes known
  pub within : In addr ep (sent_in known next)

pub record IsMetOut (o : Spots) (wire : Wired) (known all : List ℕ) (s : Standing) (y : Endpoint) : Type 0 where
  pub behind : IsOutBehind (kind_at o y.desc.name.addr y.desc.name.num) wire (o.hub y.desc.name.addr y.desc.name.num)
      (o.place y.desc.name.addr y.desc.name.num) known s.parts (in_hand s) (32 * y.queue) (asked_as y.desc)
  pub within : IsPrefix (sent_in known behind.host.next) all

-- ---- a world

abbrev pub AreInsRight : Standing → DriverContent → Type 0
AreInsRight s d = (e : ℕ) (y : Endpoint) → slice_get d.endpoints e ≡ Some y → IsThere (queued d) (queued_endpoint y)
    → y.desc.name.way ≡ ways.In → IsIn (s.parts (32 * y.queue))

pub record IsBehind (fixed : Fixed) (o : Spots) (s : Standing) (m : Lines) (puts : ℕ → List ℕ) (w : World) : Type 0 where
  pub ins : AreInsRight s w.driver
  pub first : PublishesLeft w.driver.made w.driver.command
  pub spots : AreSpots o w.driver
  -- hubs keep their addresses and their translators
  pub hubs : (hub port i place : ℕ) → IsAtHub o.hubs hub port i place → IsAtHub (wired fixed w).bus.hubs hub port i place
  pub met : (e : ℕ) (y : Endpoint) → slice_get w.driver.endpoints e ≡ Some y → y.desc.name.way ≡ ways.Out
      → o.has y.desc.name.addr y.desc.name.num ≡ true → IsMet (queued w.driver) e (queued_endpoint y)
      → IsMetOut o (wired fixed w) (concat (m.acc (32 * y.queue))) (concat (puts_of (queued w.driver) puts e)) s y
  pub fresh : AreFresh w.driver ways.Out o.has (IsUnsent o (wired fixed w))
  pub left : AreLeft w.driver m.acc ways.Out o.has (HasLeft o (wired fixed w) (Within puts w.driver))

pub record HasBehind (fixed : Fixed) (x : Sides) (o : Spots) (puts : ℕ → List ℕ) (w : World) : Type 0 where
  pub standing : Standing
  pub lines : Lines
  pub heads : Heads
  pub piped : IsPiped fixed x standing lines heads w
  pub pays : Pays fixed x standing lines puts w
  pub behind : IsBehind fixed o standing lines puts w
