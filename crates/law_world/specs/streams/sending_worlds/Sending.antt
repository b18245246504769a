-- A world whose endpoints are all bulk and control ones, with what its driver has still to send (EHCI 1.0, 3.5.4 and 4.10; USB 2.0, 5.5, 5.8 and 8.6).
--     IsSending fixed takes member x s puts w     the world is whole, and so is what each OUT endpoint is sent; `puts` tells the bytes of each put by the number of
--                                                 its transfer
--     HaveLeftTakers fixed w     an OUT endpoint that the walk can't meet any more has its taker still
--     HasSending fixed takes stream packets puts w     .. for some queue heads with streams, and some structures, over streams of which only those of opened endpoints may be closed
use Rattle.std.specs.Prelude.{◌≡◌, ℕ, Bool, true, false, List, slice_get, Some}
use Rattle.drv_table.specs.declared.content.Endpoint.{Endpoint}
use Rattle.law_driver.specs.endpoint_lives.Lives.{may_meet}
use Rattle.claims_driver.specs.Scripts.{receives}
use Rattle.law_ring.specs.Told.{Endpoint as Told}
use Rattle.law_devices.specs.scripted_takers.Takers.{taker_of}
use Rattle.bus_wire.specs.Bus.{Fixed}
use Rattle.bus_world.specs.World.{World}
use Rattle.law_world.specs.steps.Streaming.{Streams, Standing, wired}
use Rattle.law_world.specs.streams.put_laws.HeldPuts.{HoldsPuts}
use Rattle.law_world.specs.streams.put_laws.Sent.{SentStand}
use Rattle.law_world.specs.streams.put_laws.Owed.{Owes}
use Rattle.law_world.specs.streams.put_laws.OwedTaken.{TakenBegin, EndedAreStopped}
use Rattle.law_world.specs.streams.Whole.{IsWhole, StaysOpen, AreOf}
use Rattle.law_world.specs.streams.sending_worlds.ReportLaws.{HasNamedTaker}

-- ---- endpoints that have left

abbrev pub HaveLeftTakers : Fixed → World → Type 0
HaveLeftTakers fixed w = (e : ℕ) (z : Endpoint) → slice_get w.driver.endpoints e ≡ Some z → receives z.desc.name.way ≡ false → may_meet w.driver e z ≡ false → HasNamedTaker fixed w z.desc.name

-- ---- the whole

pub record IsSending (fixed : Fixed) (takes : ℕ → ℕ → Bool) (member : ℕ → Bool) (x : Streams) (s : Standing) (puts : ℕ → List ℕ) (w : World) : Type 0 where
  pub whole : IsWhole fixed takes member x s w
  -- its qTDs are sent whole and in turn, and once the report has its end its queue head is halted
  pub sent : SentStand w.driver s.order s.out s.hand s.parts
  pub ended : EndedAreStopped w.driver s.parts
  -- the buffers of its puts hold their bytes; what was reported of it, and behind that what is still to be sent, are its puts, or what was reported begins them
  pub held : HoldsPuts w.driver w.memory puts
  pub owes : Owes w.driver w.memory puts s.reported
  -- what its device took begins them
  pub begin : TakenBegin taker_of w.driver puts (wired fixed w)
  pub left_takers : HaveLeftTakers fixed w

pub record HasSending (fixed : Fixed) (takes : ℕ → ℕ → Bool) (stream : ℕ → ℕ → Bool) (packets : ℕ → ℕ → List (List ℕ)) (puts : ℕ → List ℕ) (w : World) : Type 0 where
  pub member : ℕ → Bool
  pub streams : ℕ → Bool
  pub endpoint : ℕ → Told
  pub standing : Standing
  pub ins : ℕ → ℕ → Bool
  pub outs : ℕ → ℕ → Bool
  pub sending : IsSending fixed outs member (record { stream = ins; packets = packets; streams = streams; endpoint = endpoint }) standing puts w
  pub ins_stay : StaysOpen w.driver true stream ins
  pub outs_stay : StaysOpen w.driver false takes outs
  pub ins_were : AreOf stream ins
  pub outs_were : AreOf takes outs
