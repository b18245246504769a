-- One event of the walk of the frames, over the structures in memory, whatever is in hand (EHCI 1.0, 4.6).
--     EventHappens transacts met parts hand
--                       from each frame with this in hand, and with bytes heard that are bytes, the event leaves a frame and has one of the effects; so it
--                       is not the fault, and no frame span traversal node comes
--     DoesAtHand ..     what the event does, as what is in hand tells it
use Rattle.std.specs.Prelude.{ℕ, List, Option}
use Rattle.usb_base.specs.declared.packets.Ask.{Ask}
use Rattle.usb_base.specs.declared.packets.Reply.{Reply}
use Rattle.periodic_walk.specs.Place.{FramePlace, HasEffect}
use Rattle.periodic_walk.specs.Rows.{step_of, effect_at, Leads}
use Rattle.law_structures.specs.lent_structures.Structures.{StructureSets}
use Rattle.law_ring.specs.Effects.{AreBytesHeard}
use Rattle.law_frames.specs.Met.{Kind}
use Rattle.law_frames.specs.FrameHand.{FrameHand, frame_held}
use Rattle.law_frames.specs.Frame.{IsFrame}
use Rattle.law_frames.specs.FrameEffects.{FrameHappens}

abbrev pub EventHappens : {W : Type 0} → (W → Ask → List ℕ → Reply → W → Type 0) → (ℕ → Option Kind) → StructureSets → FrameHand → Type 0
EventHappens {W} transacts met parts hand = (p : FramePlace) (wire : W) (new : FramePlace) (after : W) → IsFrame met parts hand p → AreBytesHeard transacts wire after
    → Leads transacts p wire new after → FrameHappens transacts met parts hand wire after p new (step_of p)

abbrev pub DoesAtHand : {W : Type 0} → (W → Ask → List ℕ → Reply → W → Type 0) → FrameHand → FramePlace → W → FramePlace → W → Type 0
DoesAtHand transacts hand p wire new after = HasEffect transacts (effect_at p (frame_held hand)) wire new after
