-- Each event of the controller over a ring, and the pipes of its IN endpoints (EHCI 1.0, 4.6 and 4.10; USB 2.0, 8.6).
--     IsControlToldBy ..      what was told of the packets taken: none where a microframe began, else as the event of the walk tells
--     ControlGoesOn ..        an event of the controller: at most one packet more of one of the streams
use Rattle.std.specs.Prelude.{◌≡◌, ℕ, ◌≤◌, Bool, List, [], length, Option}
use Rattle.usb_base.specs.declared.packets.Ask.{Ask}
use Rattle.usb_base.specs.declared.packets.Reply.{Reply}
use Rattle.hc_core.specs.Controller.{Content}
use Rattle.law_structures.specs.lent_structures.Structures.{StructureSets}
use Rattle.law_ring.specs.Hand.{Hand}
use Rattle.claims_base.specs.Controller.{Base}
use Rattle.law_ring.specs.Told.{Endpoint}
use Rattle.law_controller.specs.controlled_streams.Control.{ControlEffect, a_microframe, a_step, Controls}
use Rattle.law_ring.specs.Bus.{Sender}
use Rattle.law_ring.specs.Pipes.{ArePiped, grown, IsToldBy}

abbrev pub IsControlToldBy : {W : Type 0} {begins : W → ℕ → Bool → W → Type 0} {transacts : W → Ask → List ℕ → Reply → W → Type 0} {parts : StructureSets} {hand : Hand} {wire after : W}
    {now : StructureSets} {later : Hand} → (ℕ → Bool) → ℕ → List (List ℕ) → ControlEffect begins transacts parts hand wire after now later → Type 0
IsControlToldBy streams at more (a_microframe b) = more ≡ []
IsControlToldBy streams at more (a_step k) = IsToldBy streams at more k.streams

pub record ControlGoesOn {W : Type 0} (begins : W → ℕ → Bool → W → Type 0) (transacts : W → Ask → List ℕ → Reply → W → Type 0) (stream : ℕ → ℕ → Bool) (packets : ℕ → ℕ → List (List ℕ))
    (sender : W → ℕ → ℕ → Option Sender) (base : Base) (member streams : ℕ → Bool) (endpoint : ℕ → Endpoint) (acc : ℕ → List (List ℕ)) (parts : StructureSets) (hand : Hand) (wire after : W)
    (new : Content) : Type 0 where
  pub event : Controls begins transacts base member parts hand wire after new
  pub at : ℕ
  pub more : List (List ℕ)
  pub few : length more ≤ 1
  pub piped : ArePiped stream packets sender member streams endpoint (grown acc at more) event.now event.later after
  pub told : IsControlToldBy streams at more event.effect
