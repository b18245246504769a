-- Endpoints of a driver of bulk and control endpoints that have left the ring, once the doorbell is answered (EHCI 1.0, 4.8.2): the walk meets fewer queue heads, and just the streams of
-- those that it doesn't meet any more are closed.
--     is_side way w              an endpoint of way w is an IN endpoint, or an OUT endpoint where `way` is false; a control endpoint is neither
--     IsOnSide way w             the same, as a statement
--     left_names d way           the names of the endpoints of this side that aren't met any more
--     HasLeft d way addr ep      an endpoint of this name and side isn't met any more
--     LeftIsNamed, NamedHasLeft        these are just those names
--     HaveOuts d streams ends outs     each of these queue heads is that of an OUT endpoint
--     NarrowsTo d f narrow       the endpoints are as before, and of those that were met the walk meets just those still that may be met
--     AreNarrowed                so it is, where these are the queue heads that the walk meets then
--     InsHaveLeft, OutsHaveLeft        those that have left are just the endpoints whose queue head isn't met any more
--     StreamsStayMet             the queue heads with streams that the walk still meets are those of the driver's content then
--     cleared p                  the driver after it has cleared Async Advance
--     ClearNarrows, ClearKeepsStreams  at that event the walk meets fewer queue heads, and those with streams are so
--     InsAreClosed, OutsAreClosed      so just their streams are closed
--     KeptOrLeft                 a stream is kept, or an endpoint of its name has left
--     LeftIsShut                 an endpoint that isn't met any more has none
use Rattle.std.specs.Prelude.{◌≡◌, ◌≢◌, ◌⊎◌, ℕ, ◌*◌, ◌==◌, ◌&&◌, not, Bool, true, false, slice_get, Some, None, if◌then◌else◌}
use Rattle.usb_base.specs.declared.packets.Way.{Way}
use Rattle.drv_table.specs.declared.content.Endpoint.{Endpoint}
use Rattle.drv_table.specs.declared.content.Command.TheVariants as unfinished
use Rattle.drv_table.specs.declared.rows.DriverRow.TheVariants as rows
use Rattle.drv_table.specs.DriverContent.{DriverContent}
use Rattle.drv_table.specs.Parts.{Parts}
use Rattle.drv_table.specs.Rows.{after_driver_row}
use Rattle.claims_driver.specs.Leaving.{HasOwners}
use Rattle.claims_driver.specs.Scripts.{receives, comes_in}
use Rattle.law_driver.specs.chained_transfers.Asynchronous.{OnlyAsynchronous}
use Rattle.law_driver.specs.endpoint_lives.Lives.{any_at, may_meet}
use Rattle.law_ring.specs.Stores.{IsWider}
use Rattle.law_ring.specs.Told.{Endpoint as Told}
use Rattle.law_ring.specs.Pipes.{AreEndpoints}
use Rattle.law_driver_ring.specs.fed_queues.Places.{IsMet, HasHead, AreMet, HaveStreams}
use Rattle.law_queues.specs.open_laws.Opens.{AreNamesApart}
use Rattle.law_world.specs.steps.closed_streams.Several.{ClosesSome}
use Rattle.law_world.specs.steps.closed_streams.Left.{heads_met, names_kept, HaveLeft, KeepMet}

-- ---- names

abbrev pub is_side : Bool → Way → Bool
is_side way w = if way then comes_in w else not (receives w)

abbrev pub IsOnSide : Bool → Way → Type 0
IsOnSide true w = comes_in w ≡ true
IsOnSide false w = receives w ≡ false

abbrev pub left_names : DriverContent → Bool → ℕ → ℕ → Bool
left_names d way addr ep = any_at (λ e x. (x.desc.name.addr == addr && x.desc.name.num == ep) && (is_side way x.desc.name.way && not (may_meet d e x))) d.endpoints

pub record HasLeft (d : DriverContent) (way : Bool) (addr ep : ℕ) : Type 0 where
  pub number : ℕ
  pub endpoint : Endpoint
  pub here : slice_get d.endpoints number ≡ Some endpoint
  pub named : (endpoint.desc.name.addr ≡ addr) × (endpoint.desc.name.num ≡ ep)
  pub side : IsOnSide way endpoint.desc.name.way
  pub unmet : may_meet d number endpoint ≡ false

abbrev pub LeftIsNamed : Type 0
LeftIsNamed = (d : DriverContent) (way : Bool) (addr ep : ℕ) → left_names d way addr ep ≡ true → HasLeft d way addr ep

abbrev pub NamedHasLeft : Type 0
NamedHasLeft = (d : DriverContent) (way : Bool) (addr ep : ℕ) → HasLeft d way addr ep → left_names d way addr ep ≡ true

-- ---- the answer of the doorbell

pub record NarrowsTo (d f : DriverContent) (narrow : ℕ → Bool) : Type 0 where
  pub ends : f.endpoints ≡ d.endpoints
  pub met : (e : ℕ) (x : Endpoint) → slice_get d.endpoints e ≡ Some x → IsMet d e x → narrow (32 * x.queue) ≡ may_meet f e x

-- no endpoint is being opened then
abbrev pub AreNarrowed : Type 0
AreNarrowed = (d f : DriverContent) (narrow : ℕ → Bool) → OnlyAsynchronous d → HasOwners d → f.endpoints ≡ d.endpoints → ((queue : ℕ) → f.command ≢ Some (unfinished.Open queue)) → AreMet f narrow
    → NarrowsTo d f narrow

abbrev pub InsHaveLeft : Type 0
InsHaveLeft = (d f : DriverContent) (narrow streams : ℕ → Bool) (ends : ℕ → Told) → OnlyAsynchronous d → AreNamesApart d → HaveStreams d streams ends → NarrowsTo d f narrow
    → HaveLeft streams narrow ends (left_names f true)

-- a queue head of an OUT endpoint has no stream to the host, and keeps the toggle itself (3.6), which that of a control endpoint doesn't
abbrev pub HaveOuts : DriverContent → (ℕ → Bool) → (ℕ → Told) → (ℕ → Bool) → Type 0
HaveOuts d streams ends outs = (n : ℕ) → outs n ≡ true → (streams n ≡ false) × ((ends n).dtc ≡ false) × HasHead d n

abbrev pub OutsHaveLeft : Type 0
OutsHaveLeft = (d f : DriverContent) (narrow streams outs : ℕ → Bool) (ends : ℕ → Told) → OnlyAsynchronous d → AreNamesApart d → HaveStreams d streams ends → HaveOuts d streams ends outs → NarrowsTo d f narrow
    → HaveLeft outs narrow ends (left_names f false)

-- none may be met that wasn't
abbrev pub StreamsStayMet : Type 0
StreamsStayMet = (d f : DriverContent) (narrow streams : ℕ → Bool) (ends : ℕ → Told) → HaveStreams d streams ends → NarrowsTo d f narrow
    → ((e : ℕ) (x : Endpoint) → IsMet f e x → IsMet d e x) → ((e : ℕ) (x : Endpoint) → IsMet d e x → may_meet f e x ≡ true → IsMet f e x) → HaveStreams f (heads_met streams narrow) ends

-- ---- the event

abbrev pub cleared : Parts → DriverContent
cleared p = (after_driver_row rows.ClearAdvance p).driver

abbrev pub ClearNarrows : Type 0
ClearNarrows = (p : Parts) (narrow : ℕ → Bool) → OnlyAsynchronous p.driver → HasOwners p.driver → p.driver.command ≡ None → AreMet (cleared p) narrow → NarrowsTo p.driver (cleared p) narrow

abbrev pub ClearKeepsStreams : Type 0
ClearKeepsStreams = (p : Parts) (narrow streams : ℕ → Bool) (ends : ℕ → Told) → HaveStreams p.driver streams ends → NarrowsTo p.driver (cleared p) narrow
    → HaveStreams (cleared p) (heads_met streams narrow) ends

-- ---- the streams

abbrev pub InsAreClosed : Type 0
InsAreClosed = (d f : DriverContent) (stream : ℕ → ℕ → Bool) (member narrow streams those : ℕ → Bool) (ends : ℕ → Told) → OnlyAsynchronous d → AreNamesApart d → HaveStreams d streams ends
    → NarrowsTo d f narrow → IsWider narrow member → AreEndpoints stream member streams ends → ((n : ℕ) → those n ≡ heads_met streams narrow n)
    → ClosesSome stream (names_kept stream (left_names f true)) member narrow streams those ends × KeepMet streams narrow those

abbrev pub OutsAreClosed : Type 0
OutsAreClosed = (d f : DriverContent) (takes : ℕ → ℕ → Bool) (member narrow streams outs those : ℕ → Bool) (ends : ℕ → Told) → OnlyAsynchronous d → AreNamesApart d → HaveStreams d streams ends
    → HaveOuts d streams ends outs → NarrowsTo d f narrow → IsWider narrow member → AreEndpoints takes member outs ends → ((n : ℕ) → those n ≡ heads_met outs narrow n)
    → ClosesSome takes (names_kept takes (left_names f false)) member narrow outs those ends × KeepMet outs narrow those

abbrev pub KeptOrLeft : Type 0
KeptOrLeft = (f : DriverContent) (way : Bool) (stream : ℕ → ℕ → Bool) (addr ep : ℕ) → stream addr ep ≡ true → (names_kept stream (left_names f way) addr ep ≡ true) ⊎ HasLeft f way addr ep

abbrev pub LeftIsShut : Type 0
LeftIsShut = (f : DriverContent) (way : Bool) (stream : ℕ → ℕ → Bool) (addr ep : ℕ) → HasLeft f way addr ep → names_kept stream (left_names f way) addr ep ≡ false
