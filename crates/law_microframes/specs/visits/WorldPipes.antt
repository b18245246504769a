-- An event of the controller keeps both sides of each pipe at high speed, in a world with endpoints of every kind (EHCI 1.0, 4.6 to 4.11;
-- USB 2.0, 8.5 and 8.6).
--     IsIsoBeside s sends takes    isochronous transactions ask none of the streams
--     EventOf fixed s w a          the event, as the streams tell it
--     ControllerKeepsPipes         so it is after the event, where the bus answers as its senders and takers do
use Rattle.std.specs.Prelude.{ℕ, Bool, List, Option}
use Rattle.usb_base.specs.declared.packets.Ask.{Ask}
use Rattle.bus_wire.specs.Bus.{Wired, Fixed}
use Rattle.law_ring.specs.Told.{Endpoint as Told}
use Rattle.law_ring.specs.Bus.{Sender, IsStreamAsk, IsBus, KeepsSenders}
use Rattle.law_ring.specs.OutBus.{Taker, IsOutAsk, IsOutBus, KeepsTakers}
use Rattle.law_frames.specs.FrameStreams.{IsIsoAsk}
use Rattle.law_controller.specs.frame_control.Joined.{joined, BothStreamEffect}
use Rattle.law_descriptors.specs.Both.{both, parts_now}
use Rattle.law_driver.specs.queued_drivers.Queued.{queued}
use Rattle.law_world.specs.steps.Streaming.{begins_by, transacts_by, wired}
use Rattle.bus_world.specs.World.{World, controller_next}
use Rattle.law_world.specs.memory.Mixed.{Standing, IsMixedAt}
use Rattle.law_world.specs.memory.Steps.{IsEventOf, IsMixedControlled}
use Rattle.law_world.specs.memory.pipe_steps.Pipes.{PipesStand, AreByWay}
use Rattle.law_world.specs.memory.pipe_steps.Events.{PipesGoOn}

pub record IsIsoBeside (s : Standing) (sends takes : ℕ → ℕ → Bool) : Type 0 where
  pub ins : (ask : Ask) → IsIsoAsk (both s.descs s.parts) ask → IsStreamAsk sends ask → ⊥
  pub outs : (ask : Ask) → IsIsoAsk (both s.descs s.parts) ask → IsOutAsk takes ask → ⊥

abbrev pub EventOf : (fixed : Fixed) (s : Standing) (w : World) → IsEventOf fixed s w → Type 0
EventOf fixed s w a =
    BothStreamEffect begins_by (IsIsoAsk (both s.descs s.parts)) transacts_by s.parts (joined s.hand s.frame) (wired fixed w)
    (wired fixed (controller_next fixed w)) (parts_now s.descs s.parts a.now) (joined a.later a.frame_later)

abbrev pub ControllerKeepsPipes : Type 0
ControllerKeepsPipes = (sends takes : ℕ → ℕ → Bool) (packets : ℕ → ℕ → List (List ℕ)) (sender : Wired → ℕ → ℕ → Option Sender)
    (taker : Wired → ℕ → ℕ → Option Taker) (ins outs : ℕ → Bool) (ends : ℕ → Told) (acc : ℕ → List (List ℕ)) (fixed : Fixed)
    (s : Standing) (w : World) → IsBus transacts_by sends sender → KeepsSenders begins_by sends sender
    → IsOutBus transacts_by takes taker → KeepsTakers begins_by takes taker → IsMixedAt s w → (c : IsMixedControlled fixed s w)
    → AreByWay (queued w.driver) sends takes ins outs ends → IsIsoBeside s sends takes → (z : EventOf fixed s w c.event)
    → PipesStand sends takes packets sender taker s.near ins outs ends acc s.parts (joined s.hand s.frame) (wired fixed w)
    → PipesGoOn sends takes packets sender taker s.near ins outs ends acc z
