-- Events of the walk of the frames that follow each other (EHCI 1.0, 4.6), and what is claimed of them.
--     HearsBytes transacts     whatever bytes this wire lets hear are bytes
--     Walks transacts new after kinds p wire
--                              events of these kinds, one after the other, lead from p to new
--     AreNoFaults kinds        none of them is the fault
--     HappenInTurn ..            .. each of which leaves a frame, has one of the effects on the structures and on what is in hand, and begins with what the
--                                one before it left
--     UnmetStays ..            an event leaves the structures of those that aren't met as they were
--     IsWalked ..                a frame is left, the events happened in turn from these structures to those, the structures of those that aren't met are the
--                                same, none of these kinds is the fault, and no word was refused
use Rattle.std.specs.Prelude.{◌≡◌, ℕ, true, List, [], ◌∷◌, Option, None}
use Rattle.usb_base.specs.declared.packets.Ask.{Ask}
use Rattle.usb_base.specs.declared.packets.Reply.{Reply}
use Rattle.async_walk.specs.declared.state.WalkStep.{WalkStep}
use Rattle.async_walk.specs.declared.state.WalkStep.TheVariants as steps
use Rattle.periodic_walk.specs.Place.{FramePlace}
use Rattle.periodic_walk.specs.Rows.{step_of, Leads}
use Rattle.law_structures.specs.lent_structures.Structures.{StructureSets}
use Rattle.claims_base.specs.Controller.{base_of}
use Rattle.law_ring.specs.Effects.{AreBytesHeard}
use Rattle.law_frames.specs.Met.{Kind}
use Rattle.law_frames.specs.FrameHand.{FrameHand}
use Rattle.law_frames.specs.Frame.{IsFrame}
use Rattle.law_frames.specs.FrameEffects.{FrameEffect, FrameHappens}

abbrev pub HearsBytes : {W : Type 0} → (W → Ask → List ℕ → Reply → W → Type 0) → Type 0
HearsBytes {W} transacts = (before after : W) → AreBytesHeard transacts before after

pub data Walks {W : Type 0} (transacts : W → Ask → List ℕ → Reply → W → Type 0) (new : FramePlace) (after : W) : List WalkStep → FramePlace → W → Type 0 where
  over : Walks transacts new after [] new after
  and_then : (kind : WalkStep) (kinds : List WalkStep) (p mid : FramePlace) (wire between : W) → step_of p ≡ kind → Leads transacts p wire mid between
      → Walks transacts new after kinds mid between → Walks transacts new after (kind ∷ kinds) p wire

abbrev pub IsNoFault : WalkStep → Type 0
IsNoFault steps.Fault = ⊥
IsNoFault _ = Unit {0}

abbrev pub AreNoFaults : List WalkStep → Type 0
AreNoFaults [] = Unit {0}
AreNoFaults (kind ∷ kinds) = IsNoFault kind × AreNoFaults kinds

-- from these structures with this in hand, to `now` with `later` in hand
pub data HappenInTurn {W : Type 0} (transacts : W → Ask → List ℕ → Reply → W → Type 0) (met : ℕ → Option Kind) (new : FramePlace) (after : W) (now : StructureSets) (later : FrameHand) : List WalkStep → FramePlace → W → StructureSets → FrameHand → Type 0 where
  none : HappenInTurn transacts met new after now later [] new after now later
  first : (kind : WalkStep) (kinds : List WalkStep) (p mid : FramePlace) (wire between : W) (parts : StructureSets) (hand : FrameHand) → step_of p ≡ kind
      → Leads transacts p wire mid between → (h : FrameHappens transacts met parts hand wire between p mid kind)
      → HappenInTurn transacts met new after now later kinds mid between h.now h.later → HappenInTurn transacts met new after now later (kind ∷ kinds) p wire parts hand

abbrev pub UnmetStays : {W : Type 0} → (W → Ask → List ℕ → Reply → W → Type 0) → Type 0
UnmetStays {W} transacts = (met : ℕ → Option Kind) (parts : StructureSets) (hand : FrameHand) (p : FramePlace) (wire after : W) (now : StructureSets) (later : FrameHand) (kind : WalkStep)
    → IsFrame met parts hand p → FrameEffect transacts parts p.walk hand wire after now later kind → (n : ℕ) → met n ≡ None → now n ≡ parts n

pub record IsWalked {W : Type 0} (transacts : W → Ask → List ℕ → Reply → W → Type 0) (met : ℕ → Option Kind) (parts : StructureSets) (hand : FrameHand) (wire after : W) (p new : FramePlace) (kinds : List WalkStep) : Type 0 where
  pub now : StructureSets
  pub later : FrameHand
  pub frame : IsFrame met now later new
  pub events : HappenInTurn transacts met new after now later kinds p wire parts hand
  pub beside : (n : ℕ) → met n ≡ None → now n ≡ parts n
  pub registers : base_of new.registers ≡ base_of p.registers
  pub no_faults : AreNoFaults kinds
  pub not_refused : p.registers.run ≡ true → new.memory.foreign ≡ p.memory.foreign
