-- Each step of a queue keeps the streams (EHCI 1.0, 4.6, 4.8 and 4.10; USB 2.0, 5.7, 5.8 and 8.6): what of an endpoint's stream is moved
-- the controller moves, and no event of the driver.
--     StaysTellsOneHand       where only links of queue heads differ, memory and what either walk has in hand tell the same of each queue
--     IsNoOpening step        the step brings no queue head that is met more
--     StepKeepsPipes          each other step keeps both sides of each pipe agreed, of the queue heads that are still met
--     IsBegun ..              the queue head at n is met now, and has a stream of its device's endpoint, which nothing moved of yet: an IN
--                             one, an OUT one, or none
--     OpenBeginsPipes         so it is once an endpoint was opened
use Rattle.std.specs.Prelude.{◌≡◌, ◌≢◌, ℕ, ◌*◌, Bool, true, false, List, [], Option}
use Rattle.law_ring.specs.Told.{Endpoint as Told, HasToggle, HasEndpoint, SameTold}
use Rattle.law_ring.specs.Bus.{Sender}
use Rattle.law_ring.specs.OutBus.{Taker}
use Rattle.law_controller.specs.controlled_streams.Opened.{with_stream, with_end}
use Rattle.law_controller.specs.controlled_streams.Unopened.{IsUntouched, IsUnopened}
use Rattle.law_controller.specs.frame_control.Joined.{joined}
use Rattle.law_driver.specs.queued_drivers.Queued.{queued}
use Rattle.law_queues.specs.open_laws.Queues.{IsOpenThere}
use Rattle.law_world.specs.steps.Outs.{IsUntaken}
use Rattle.bus_world.specs.World.{World}
use Rattle.law_world.specs.memory.Mixed.{Standing, IsMixedAt}
use Rattle.law_world.specs.memory.Steps.{AreTold, HasOpened, QueueStep, opens}
use Rattle.law_world.specs.memory.pipe_steps.Pipes.{PipesStand, AreByWay, AreStillMet}

abbrev pub StaysTellsOneHand : Type 0
StaysTellsOneHand = (s t : Standing) → AreTold s t → SameTold (joined s.hand s.frame) s.parts (joined t.hand t.frame) t.parts

abbrev pub IsNoOpening : {s : Standing} {w new : World} {t : Standing} → QueueStep s w new t → Type 0
IsNoOpening (opens k t finished opened) = ⊥
IsNoOpening _ = Unit {0}

abbrev pub StepKeepsPipes : {W : Type 0} → (W → ℕ → ℕ → Option Sender) → (W → ℕ → ℕ → Option Taker) → Type 0
StepKeepsPipes {W} sender taker = (sends takes : ℕ → ℕ → Bool) (packets : ℕ → ℕ → List (List ℕ)) (ins outs ins_then outs_then : ℕ → Bool)
    (ends : ℕ → Told) (acc : ℕ → List (List ℕ)) (wire : W) (s t : Standing) (w new : World) → IsMixedAt s w
    → (step : QueueStep s w new t) → IsNoOpening step → AreByWay (queued w.driver) sends takes ins outs ends
    → AreStillMet t.near ins ins_then → AreStillMet t.near outs outs_then
    → PipesStand sends takes packets sender taker s.near ins outs ends acc s.parts (joined s.hand s.frame) wire
    → PipesStand sends takes packets sender taker t.near ins_then outs_then ends acc t.parts (joined t.hand t.frame) wire

-- ---- a stream begins

pub data IsBegun {W : Type 0} (sends takes : ℕ → ℕ → Bool) (packets : ℕ → ℕ → List (List ℕ)) (sender : W → ℕ → ℕ → Option Sender)
    (taker : W → ℕ → ℕ → Option Taker) (ins outs : ℕ → Bool) (ends : ℕ → Told) (wire : W) (n : ℕ) (x : Told)
    : (ℕ → Bool) → (ℕ → Bool) → Type 0 where
  as_in : x.speed ≡ 2 → x.dtc ≡ false → sends x.addr x.ep ≡ true → IsUnopened ins ends x.addr x.ep
      → IsUntouched (packets x.addr x.ep) (sender wire x.addr x.ep)
      → IsBegun sends takes packets sender taker ins outs ends wire n x (with_stream ins n) outs
  as_out : x.speed ≡ 2 → x.dtc ≡ false → takes x.addr x.ep ≡ true → IsUnopened outs ends x.addr x.ep → IsUntaken (taker wire x.addr x.ep)
      → IsBegun sends takes packets sender taker ins outs ends wire n x ins (with_stream outs n)
  as_none : IsBegun sends takes packets sender taker ins outs ends wire n x ins outs

-- x is the endpoint as its queue head asks it, first with DATA0; nothing moved of it yet
abbrev pub OpenBeginsPipes : {W : Type 0} → (W → ℕ → ℕ → Option Sender) → (W → ℕ → ℕ → Option Taker) → Type 0
OpenBeginsPipes {W} sender taker = (sends takes : ℕ → ℕ → Bool) (packets : ℕ → ℕ → List (List ℕ)) (ins outs ins_then outs_then : ℕ → Bool)
    (ends : ℕ → Told) (acc acc_then : ℕ → List (List ℕ)) (wire : W) (s t : Standing) (w : World) (x : Told) → IsMixedAt s w
    → (k : IsOpenThere (queued w.driver) s.parts)
    → HasOpened s t k.endpoint → HasEndpoint t.parts (32 * k.endpoint.queue) x
    → (x.dtc ≡ false → HasToggle (joined t.hand t.frame) t.parts (32 * k.endpoint.queue) false)
    → acc_then (32 * k.endpoint.queue) ≡ [] → ((i : ℕ) → i ≢ 32 * k.endpoint.queue → acc_then i ≡ acc i)
    → IsBegun sends takes packets sender taker ins outs ends wire (32 * k.endpoint.queue) x ins_then outs_then
    → PipesStand sends takes packets sender taker s.near ins outs ends acc s.parts (joined s.hand s.frame) wire
    → PipesStand sends takes packets sender taker t.near ins_then outs_then (with_end ends (32 * k.endpoint.queue) x) acc_then t.parts
    (joined t.hand t.frame) wire
