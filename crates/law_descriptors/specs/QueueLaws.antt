-- The law of an event of a ring's walk beside isochronous descriptors (EHCI 1.0, 4.8 and 4.10).
use Rattle.std.specs.Prelude.{ℕ, Bool, List}
use Rattle.usb_base.specs.declared.packets.Ask.{Ask}
use Rattle.usb_base.specs.declared.packets.Reply.{Reply}
use Rattle.async_walk.specs.declared.state.WalkStep.{WalkStep}
use Rattle.async_walk.specs.Rows.{WalkPlace}
use Rattle.claims_driver.specs.Owners.{Views}
use Rattle.law_structures.specs.lent_structures.Structures.{StructureSets}
use Rattle.law_ring.specs.Hand.{Hand}
use Rattle.claims_base.specs.Controller.{Base}
use Rattle.law_ring.specs.Ring.{IsRing}
use Rattle.law_ring.specs.Effects.{Effect}
use Rattle.law_descriptors.specs.Described.{AreDescribed}
use Rattle.law_descriptors.specs.Both.{both, parts_now}

-- an event over both is one over the queues' structures
abbrev pub EffectIsOfQueues : {W : Type 0} → (W → Ask → List ℕ → Reply → W → Type 0) → Type 0
EffectIsOfQueues {W} transacts = (v : Views) (descs parts : StructureSets) (base : Base) (member : ℕ → Bool) (hand : Hand) (p : WalkPlace) (wire after : W) (now : StructureSets) (later : Hand)
    (kind : WalkStep) → AreDescribed v descs → IsRing base member (both descs parts) hand p
    → Effect transacts (both descs parts) hand wire after now later kind → Effect transacts parts hand wire after (parts_now descs parts now) later kind
