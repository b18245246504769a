-- What an event of either walk keeps, and which words stay so.
--     FrameKeeps transacts     an event of the walk of the frames keeps structures
--     WalkKeeps transacts      so do however many of them that follow each other
--     RingKeeps transacts      and one of the ring's walk
--     ControlKeeps ..          and one of the controller over a ring
--     KeptIsLeft               where memory is told before and after, the words that are kept stay
use Rattle.std.specs.Prelude.{ℕ, Bool, List, Option}
use Rattle.usb_base.specs.declared.packets.Ask.{Ask}
use Rattle.usb_base.specs.declared.packets.Reply.{Reply}
use Rattle.word_mem.specs.Memory.{Mem}
use Rattle.async_walk.specs.declared.state.WalkStep.{WalkStep}
use Rattle.async_walk.specs.Rows.{WalkPlace}
use Rattle.periodic_walk.specs.Place.{FramePlace}
use Rattle.hc_core.specs.Controller.{Content, walk_place}
use Rattle.law_structures.specs.lent_structures.Structures.{StructureSets, Tells}
use Rattle.law_ring.specs.Hand.{Hand}
use Rattle.claims_base.specs.Controller.{Base}
use Rattle.law_ring.specs.Ring.{IsRing}
use Rattle.law_ring.specs.Effects.{Effect}
use Rattle.law_controller.specs.controlled_streams.Control.{ControlEffect}
use Rattle.law_ring.specs.walk_writes.Writes.{WritesLent}
use Rattle.law_frames.specs.Met.{Kind}
use Rattle.law_frames.specs.FrameHand.{FrameHand}
use Rattle.law_frames.specs.Frame.{IsFrame}
use Rattle.law_frames.specs.FrameEffects.{FrameEffect}
use Rattle.law_frames.specs.Walks.{IsWalked}
use Rattle.law_descriptors.specs.frame_keeps.Kept.{KeepsParts}
use Rattle.law_descriptors.specs.frame_keeps.Leaving.{LeavesStructures}

abbrev pub FrameKeeps : {W : Type 0} → (W → Ask → List ℕ → Reply → W → Type 0) → Type 0
FrameKeeps {W} transacts = (met : ℕ → Option Kind) (parts : StructureSets) (hand : FrameHand) (p : FramePlace) (wire after : W) (now : StructureSets) (later : FrameHand) (kind : WalkStep)
    → IsFrame met parts hand p → FrameEffect transacts parts p.walk hand wire after now later kind → KeepsParts parts now

abbrev pub WalkKeeps : {W : Type 0} → (W → Ask → List ℕ → Reply → W → Type 0) → Type 0
WalkKeeps {W} transacts = (met : ℕ → Option Kind) (parts : StructureSets) (hand : FrameHand) (wire after : W) (p new : FramePlace) (kinds : List WalkStep)
    → IsFrame met parts hand p → (w : IsWalked transacts met parts hand wire after p new kinds) → KeepsParts parts w.now

abbrev pub RingKeeps : {W : Type 0} → (W → Ask → List ℕ → Reply → W → Type 0) → Type 0
RingKeeps {W} transacts = (base : Base) (member : ℕ → Bool) (parts : StructureSets) (hand : Hand) (p : WalkPlace) (wire after : W) (now : StructureSets) (later : Hand) (kind : WalkStep)
    → IsRing base member parts hand p → Effect transacts parts hand wire after now later kind → KeepsParts parts now

abbrev pub ControlKeeps : {W : Type 0} → (W → ℕ → Bool → W → Type 0) → (W → Ask → List ℕ → Reply → W → Type 0) → Type 0
ControlKeeps {W} begins transacts = (base : Base) (member : ℕ → Bool) (parts : StructureSets) (hand : Hand) (c : Content) (wire after : W) (now : StructureSets) (later : Hand)
    → IsRing base member parts hand (walk_place c) → ControlEffect begins transacts parts hand wire after now later → KeepsParts parts now

-- ---- words

abbrev pub KeptIsLeft : Type 0
KeptIsLeft = (parts now : StructureSets) (m new : Mem) → WritesLent m new → Tells m parts → Tells new now → KeepsParts parts now → LeavesStructures parts m new
