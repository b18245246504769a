-- A controller that runs over a ring of queue heads and the frames (EHCI 1.0, 4.1, 4.6 to 4.10 and 4.12.3).
--     BothAreTold ..               an event of the controller over both is told, from whatever structures and copies in hand it begins
--     AreUnderWay base member met c
--                                  some structures and some copies in hand are those of a ring and of the frames under the controller
--     AreRunning ..                .. over a wire that lets bytes be heard, with the asynchronous schedule on
--     BothStay old new             where that held, it holds
--     AllAreMadeOverBoth ..        there all of so many events were made
--     NothingIsRefused old new     .. and no word was refused
use Rattle.std.specs.Prelude.{◌≡◌, ℕ, Bool, List, Option}
use Rattle.usb_base.specs.declared.packets.Ask.{Ask}
use Rattle.usb_base.specs.declared.packets.Reply.{Reply}
use Rattle.hc_core.specs.Controller.{Content}
use Rattle.law_structures.specs.lent_structures.Structures.{StructureSets}
use Rattle.law_ring.specs.Hand.{Hand}
use Rattle.claims_base.specs.Controller.{Base}
use Rattle.law_ring.specs.Effects.{AreBytesHeard}
use Rattle.law_controller.specs.controlled_streams.Control.{IsOn}
use Rattle.example_ring.specs.Runs.{HearsBytes}
use Rattle.law_frames.specs.Met.{Kind}
use Rattle.law_frames.specs.FrameHand.{FrameHand}
use Rattle.law_controller.specs.frame_control.Both.{RunsBoth, ControlsBoth}

abbrev pub BothAreTold : {W : Type 0} → (W → ℕ → Bool → W → Type 0) → (W → Ask → List ℕ → Reply → W → Type 0) → Content → W → Content → W → Type 0
BothAreTold begins transacts old before new after = (base : Base) (member : ℕ → Bool) (met : ℕ → Option Kind) (parts : StructureSets) (hand : Hand) (frame : FrameHand) → IsOn base
    → AreBytesHeard transacts before after → RunsBoth base member met parts hand frame old
    → ControlsBoth begins transacts base member met parts hand frame old.control before after new

pub record AreUnderWay (base : Base) (member : ℕ → Bool) (met : ℕ → Option Kind) (c : Content) : Type 0 where
  pub parts : StructureSets
  pub hand : Hand
  pub frame : FrameHand
  pub runs : RunsBoth base member met parts hand frame c

-- a ring and frames that the controller may run over
pub record AreRunning {W : Type 0} (transacts : W → Ask → List ℕ → Reply → W → Type 0) (base : Base) (member : ℕ → Bool) (met : ℕ → Option Kind) (c : Content) : Type 0 where
  pub on : IsOn base
  pub hears : HearsBytes transacts
  pub under_way : AreUnderWay base member met c

abbrev pub BothStay : {W : Type 0} → (W → Ask → List ℕ → Reply → W → Type 0) → Content → Content → Type 0
BothStay transacts old new = (base : Base) (member : ℕ → Bool) (met : ℕ → Option Kind) → AreRunning transacts base member met old → AreRunning transacts base member met new

abbrev pub AllAreMadeOverBoth : {W : Type 0} → (W → Ask → List ℕ → Reply → W → Type 0) → Content → ℕ → ℕ → Type 0
AllAreMadeOverBoth transacts old events made = (base : Base) (member : ℕ → Bool) (met : ℕ → Option Kind) → AreRunning transacts base member met old → made ≡ events

abbrev pub NothingIsRefused : {W : Type 0} → (W → Ask → List ℕ → Reply → W → Type 0) → Content → Content → Type 0
NothingIsRefused transacts old new = (base : Base) (member : ℕ → Bool) (met : ℕ → Option Kind) → AreRunning transacts base member met old → new.memory.foreign ≡ old.memory.foreign
