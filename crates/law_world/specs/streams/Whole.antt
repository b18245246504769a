-- A world whose endpoints are all high-speed bulk and control ones, with all that it carries from one event to the next (EHCI 1.0, 3.5, 4.6, 4.8 and 4.10; USB 2.0,
-- 5.5, 5.8 and 8.6).
--     HaveSenders d stream      the endpoint that is being opened has a stream, if it is an IN endpoint
--     IsNamed d way addr ep     an endpoint of this name and side was opened
--     StaysOpen d way before now      each of these devices' endpoints is one still, or an endpoint was opened for it
--     AreOf base now            each of these devices' endpoints is one of those
--     IsWhole fixed takes member x s w        the world is so
--     HasWhole fixed takes stream packets w   .. for some queue heads with streams, and some structures, over streams of which only those of opened endpoints may be closed
use Rattle.std.specs.Prelude.{◌≡◌, ℕ, ◌⊎◌, Bool, true, false, List, slice_get, Some}
use Rattle.drv_table.specs.declared.content.Endpoint.{Endpoint}
use Rattle.drv_table.specs.DriverContent.{DriverContent}
use Rattle.claims_driver.specs.Owners.{views_of}
use Rattle.law_ring.specs.Told.{Endpoint as Told}
use Rattle.law_driver_ring.specs.Extents.{AreInRuns}
use Rattle.law_queues.specs.open_laws.Opens.{AreNamesApart}
use Rattle.law_queues.specs.harvest_laws.Told.{ToldStands}
use Rattle.law_scripts.specs.byte_answers.Bytes.{IsByteBus}
use Rattle.bus_wire.specs.Bus.{Fixed}
use Rattle.bus_world.specs.World.{World}
use Rattle.law_world.specs.steps.Streaming.{Streams, Standing}
use Rattle.law_world.specs.streams.Feeding.{AreControlsApart, IsFeeding}
use Rattle.law_world.specs.streams.Taking.{IsTaking, HaveSides, HaveTakers}
use Rattle.law_world.specs.streams.narrowed_streams.Narrowed.{IsOnSide}
use Rattle.law_world.specs.streams.Left.{IsLeft}
use Rattle.law_queues.specs.standing_fronts.Tails.{TailsStand}
use Rattle.law_world.specs.streams.Tails.{IsUnderWay}

-- ---- names

pub record IsNamed (d : DriverContent) (way : Bool) (addr ep : ℕ) : Type 0 where
  pub number : ℕ
  pub endpoint : Endpoint
  pub here : slice_get d.endpoints number ≡ Some endpoint
  pub named : (endpoint.desc.name.addr ≡ addr) × (endpoint.desc.name.num ≡ ep)
  pub side : IsOnSide way endpoint.desc.name.way

abbrev pub StaysOpen : DriverContent → Bool → (ℕ → ℕ → Bool) → (ℕ → ℕ → Bool) → Type 0
StaysOpen d way before now = (addr ep : ℕ) → before addr ep ≡ true → (now addr ep ≡ true) ⊎ IsNamed d way addr ep

abbrev pub AreOf : (ℕ → ℕ → Bool) → (ℕ → ℕ → Bool) → Type 0
AreOf base now = (addr ep : ℕ) → base addr ep ≡ false → now addr ep ≡ false

-- ---- the whole

abbrev pub HaveSenders : DriverContent → (ℕ → ℕ → Bool) → Type 0
HaveSenders d stream = HaveSides true d stream

pub record IsWhole (fixed : Fixed) (takes : ℕ → ℕ → Bool) (member : ℕ → Bool) (x : Streams) (s : Standing) (w : World) : Type 0 where
  pub feeding : IsFeeding fixed member x s w
  pub taking : IsTaking fixed takes member x s w
  pub under_way : IsUnderWay w.driver w.memory member s.parts w.driver.command
  pub names : AreNamesApart w.driver
  pub senders : HaveSenders w.driver x.stream
  pub takers : HaveTakers w.driver takes
  -- the name of a control endpoint is that of no taker
  pub controls_apart : AreControlsApart w.driver takes
  pub runs : AreInRuns (views_of w.driver) s.parts
  pub tails : TailsStand w.driver s.parts s.order s.out
  pub told : ToldStands w.driver s.hand s.parts s.reported
  pub bytes : IsByteBus w.bus
  pub left : IsLeft fixed takes x.packets s.acc w

pub record HasWhole (fixed : Fixed) (takes : ℕ → ℕ → Bool) (stream : ℕ → ℕ → Bool) (packets : ℕ → ℕ → List (List ℕ)) (w : World) : Type 0 where
  pub member : ℕ → Bool
  pub streams : ℕ → Bool
  pub endpoint : ℕ → Told
  pub standing : Standing
  pub ins : ℕ → ℕ → Bool
  pub outs : ℕ → ℕ → Bool
  pub whole : IsWhole fixed outs member (record { stream = ins; packets = packets; streams = streams; endpoint = endpoint }) standing w
  pub ins_stay : StaysOpen w.driver true stream ins
  pub outs_stay : StaysOpen w.driver false takes outs
  pub ins_were : AreOf stream ins
  pub outs_were : AreOf takes outs
