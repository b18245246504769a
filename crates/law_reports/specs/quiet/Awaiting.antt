-- Worlds whose packets on the high-speed bus all get through, and whose hubs keep their buffers: the host of each bulk or control endpoint
-- below a hub waits for what its hub has, and no such queue uses up its errors (EHCI 1.0, 3.5.3, 4.10.3 and 4.12; USB 2.0, 8.5, 11.17 and
-- 11.24.2).
--     is_buffered kind           a kind whose split transactions go through the buffers of a translator
--     is_buffered_below x        the endpoint so described is of such a kind, and its device isn't at high speed
--     is_buffered_asked x        a queue head of one: it has no S-mask (3.6.2)
--     asking_of way              what its qTDs ask
--     KeysAt s wire x            nothing is awaited of the endpoint so described
--     FreshKeys ..               so it is of the endpoint of this name
--     AreNumbered s b            each endpoint has the number of its next packet on the high-speed bus
--     IsAwaitingAt s wire st y   host and hub of the endpoint stand as they must
--     AreAwaited s st w          so do those of each that is met; nothing is awaited of one that wasn't opened yet
--     SparesBuffers s w          the hubs of these endpoints heard no request last that clears a buffer or resets a translator
--     IsAwaitedWorld s puts w    the world is so
use Rattle.std.specs.Prelude.{◌≡◌, ℕ, ◌*◌, ◌==◌, ◌&&◌, not, Bool, true, false, List, slice_get, Some, None}
use Rattle.usb_base.specs.declared.endpoints.EpDesc.{EpDesc}
use Rattle.usb_base.specs.declared.packets.Dir.{Dir}
use Rattle.usb_base.specs.declared.packets.EpKind.{EpKind}
use Rattle.usb_base.specs.declared.packets.EpKind.TheVariants as kinds
use Rattle.usb_base.specs.declared.packets.Way.{Way}
use Rattle.usb_base.specs.declared.packets.Way.TheVariants as ways
use Rattle.script_types.specs.declared.scripts.Script.{Script}
use Rattle.hub_class.specs.HubContent.{HubContent}
use Rattle.bus_wire.specs.declared.seats.Seat.{Seat}
use Rattle.bus_wire.specs.Bus.{Bus, Wired, fixed_of}
use Rattle.bus_wire.specs.Seats.{seats_of}
use Rattle.claims_world.specs.BelowStreams.{heard_clear}
use Rattle.drv_table.specs.declared.content.Endpoint.{Endpoint}
use Rattle.drv_table.specs.Words.{is_high}
use Rattle.law_driver.specs.queued_drivers.Queued.{queued_endpoint, queued}
use Rattle.law_driver_ring.specs.fed_queues.Places.{IsMet}
use Rattle.law_below_hubs.specs.Awaited.{KeyStands, Asking, Moves, Controls, its_kind, faces, IsAwaiting}
use Rattle.law_below_hubs.specs.HostEvents.{told_key}
use Rattle.law_below_hubs.specs.Splits.{IsAtHub}
use Rattle.law_microframes.specs.due.repeats.Hearing.{HasNumber}
use Rattle.law_opened.specs.Opened.{IsOpened}
use Rattle.law_world.specs.steps.Streaming.{wired}
use Rattle.law_world.specs.memory.Mixed.{Standing}
use Rattle.bus_world.specs.World.{World}
use Rattle.law_reports.specs.lines.Lined.{in_hand, Lines}
use Rattle.law_reports.specs.pipes.Declared.{sides_of}
use Rattle.law_reports.specs.pipes.Piped.{Heads, asked_as, AreFresh, IsPiped}
use Rattle.law_reports.specs.pipes.puts.Paid.{Pays}
use Rattle.law_reports.specs.pipes.below_hubs.Behind.{IsBehind}
use Rattle.law_reports.specs.pipes.below_hubs.BehindLaws.{hub_of, place_of, spots_of}
use Rattle.law_reports.specs.quiet.Errors.{Key}
use Rattle.law_reports.specs.quiet.Heard.{AreServed}
use Rattle.law_reports.specs.quiet.Laws.{HasErrorsLeft}

abbrev pub is_buffered : EpKind → Bool
is_buffered kinds.Bulk = true
is_buffered kinds.Control = true
is_buffered _ = false

abbrev pub is_buffered_below : EpDesc → Bool
is_buffered_below x = is_buffered x.kind && not (is_high x.speed)

abbrev pub is_buffered_asked : Key → Bool
is_buffered_asked x = not (x.eps == 2) && x.smask == 0

-- (3.5.3)
abbrev pub asking_of : Way → Asking
asking_of ways.In = Moves 1
asking_of ways.Out = Moves 0
asking_of ways.Ctl = Controls

-- ---- one endpoint

abbrev pub KeysAt : Script → Wired → EpDesc → Type 0
KeysAt s wire x = (dir : Dir) → faces (asking_of x.name.way) dir
    → KeyStands (told_key (its_kind (asking_of x.name.way)) dir (asked_as x)) (hub_of s x.hub) (place_of s x.hub x.port) wire None

abbrev pub FreshKeys : Script → Wired → Way → ℕ → ℕ → Type 0
FreshKeys s wire way addr ep = (x : EpDesc) → IsOpened s x → is_buffered_below x ≡ true → x.name.way ≡ way → x.name.addr ≡ addr
    → x.name.num ≡ ep → KeysAt s wire x

abbrev pub AwaitsBy : Script → Wired → Standing → EpDesc → ℕ → Way → Type 0
AwaitsBy s wire st x q way =
    IsAwaiting (asking_of way) wire (hub_of s x.hub) (place_of s x.hub x.port) st.parts (in_hand st) (32 * q) (asked_as x)

abbrev pub IsAwaitingAt : Script → Wired → Standing → Endpoint → Type 0
IsAwaitingAt s wire st y = AwaitsBy s wire st y.desc y.queue y.desc.name.way

-- ---- the bus

abbrev pub AreNumbered : Script → Bus → Type 0
AreNumbered s b = (place : ℕ) (seat : Seat) → slice_get (seats_of s) place ≡ Some seat → HasNumber b place

-- ---- the world

abbrev pub every_name : ℕ → ℕ → Bool
every_name addr ep = true

pub record AreAwaited (s : Script) (st : Standing) (w : World) : Type 0 where
  pub served : AreServed s w.driver
  pub met : (e : ℕ) (y : Endpoint) → slice_get w.driver.endpoints e ≡ Some y → is_buffered_below y.desc ≡ true
      → IsMet (queued w.driver) e (queued_endpoint y) → IsAwaitingAt s (wired (fixed_of s) w) st y
  pub fresh : (way : Way) → AreFresh w.driver way every_name (FreshKeys s (wired (fixed_of s) w) way)

abbrev pub HubsStand : Script → Bus → Type 0
HubsStand s b = (x : EpDesc) → IsOpened s x → is_buffered_below x ≡ true
    → IsAtHub b.hubs (asked_as x).hub (asked_as x).port (hub_of s x.hub) (place_of s x.hub x.port)

abbrev pub SparesBuffers : Script → World → Type 0
SparesBuffers s w = (x : EpDesc) → IsOpened s x → is_buffered_below x ≡ true → (h : HubContent)
    → slice_get w.bus.hubs (hub_of s x.hub) ≡ Some h → heard_clear h ≡ false

pub record IsAwaitedWorld (s : Script) (puts : ℕ → List ℕ) (w : World) : Type 0 where
  pub standing : Standing
  pub lines : Lines
  pub heads : Heads
  pub piped : IsPiped (fixed_of s) (sides_of s) standing lines heads w
  pub pays : Pays (fixed_of s) (sides_of s) standing lines puts w
  pub behind : IsBehind (fixed_of s) (spots_of s) standing lines puts w
  pub left : HasErrorsLeft is_buffered_asked standing w
  pub awaited : AreAwaited s standing w
  pub hubs : HubsStand s w.bus
  pub numbers : AreNumbered s w.bus
