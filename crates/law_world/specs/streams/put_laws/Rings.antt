-- An event leaves the buffers of a queue head that asks for no data (EHCI 1.0, 4.10): what it sends stays as it was written.
--     BuffersStay part now       each buffer of the part is there with its bytes
--     WalkLeavesBuffers          the law of an event of the walk
--     EventLeavesBuffers         .. and of an event of the controller
--     OutsAskNone                a queue head whose active qTDs are OUTs asks for no data
use Rattle.std.specs.Prelude.{◌≡◌, ℕ, Bool, true, List, Some}
use Rattle.usb_base.specs.declared.packets.Ask.{Ask}
use Rattle.usb_base.specs.declared.packets.Reply.{Reply}
use Rattle.async_walk.specs.declared.state.WalkStep.{WalkStep}
use Rattle.law_structures.specs.lent_structures.Structures.{Buffer, Structures, StructureSets}
use Rattle.law_ring.specs.Hand.{Hand}
use Rattle.claims_base.specs.Controller.{Base}
use Rattle.law_ring.specs.Ring.{IsInHand}
use Rattle.law_ring.specs.Effects.{Effect}
use Rattle.law_ring.specs.Streams.{AreMembers}
use Rattle.law_ring.specs.Pipes.{IsNotIn}
use Rattle.law_ring.specs.OutPipes.{IsOut}
use Rattle.hc_core.specs.Controller.{Content}
use Rattle.law_controller.specs.controlled_streams.Control.{IsControlled, ControlEffect}

abbrev pub BuffersStay : Structures → Structures → Type 0
BuffersStay part now = (a : ℕ) (pages : List ℕ) (k : ℕ) (bs : List ℕ) → part a ≡ Some (Buffer pages k bs) → now a ≡ Some (Buffer pages k bs)

-- the structures of a queue head that the walk doesn't meet stay in any case
abbrev pub WalkLeavesBuffers : {W : Type 0} → (W → Ask → List ℕ → Reply → W → Type 0) → Type 0
WalkLeavesBuffers {W} transacts = (member : ℕ → Bool) (parts : StructureSets) (hand : Hand) (reply : Reply) (wire after : W) (now : StructureSets) (later : Hand) (kind : WalkStep) (n : ℕ)
    → AreMembers member parts → IsInHand member parts reply hand → Effect transacts parts hand wire after now later kind → (member n ≡ true → IsNotIn (parts n))
    → BuffersStay (parts n) (now n)

abbrev pub EventLeavesBuffers : {W : Type 0} → (W → ℕ → Bool → W → Type 0) → (W → Ask → List ℕ → Reply → W → Type 0) → Type 0
EventLeavesBuffers {W} begins transacts = (base : Base) (member : ℕ → Bool) (parts : StructureSets) (hand : Hand) (c : Content) (wire after : W) (now : StructureSets) (later : Hand) (n : ℕ)
    → IsControlled base member parts hand c → ControlEffect begins transacts parts hand wire after now later → (member n ≡ true → IsNotIn (parts n))
    → BuffersStay (parts n) (now n)

abbrev pub OutsAskNone : Type 0
OutsAskNone = (part : Structures) → IsOut part → IsNotIn part
