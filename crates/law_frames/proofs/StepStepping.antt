-- What comes next is told by what is in hand; where it has an effect, it is no fault, and nothing was refused.
use Rattle.std.proofs.Common.{◌≡◌, ◌≢◌, ℕ, true, List, Option, ap, subst, sym, ◌∙◌, ⊎_elim}
use Rattle.std.proofs.lemmas.Bool.{cases_eq, true≢false}
use Rattle.usb_base.specs.declared.packets.Ask.{Ask}
use Rattle.usb_base.specs.declared.packets.Reply.{Reply}
use Rattle.async_walk.specs.declared.state.WalkStep.{WalkStep}
use Rattle.async_walk.specs.declared.state.WalkStep.TheVariants as steps
use Rattle.periodic_walk.specs.declared.state.Hand.{Hand}
use Rattle.periodic_walk.specs.Place.{FramePlace, HasEffect}
use Rattle.periodic_walk.specs.Rows.{step_of, step_at, effect_at, Leads}
use Rattle.periodic_walk.proofs.Refusals.{refusals_are_faults}
use Rattle.law_structures.specs.lent_structures.Structures.{StructureSets}
use Rattle.claims_base.specs.Controller.{Base}
use Rattle.law_frames.specs.Met.{Kind}
use Rattle.law_frames.specs.FrameHand.{FrameHand, frame_held}
use Rattle.law_frames.specs.Frame.{IsFrame}
use Rattle.law_frames.specs.FrameEffects.{FrameEffect, fetches, FrameHappens}
use Rattle.law_frames.specs.FrameSteps.{DoesAtHand}

pub step_in_hand : (met : ℕ → Option Kind) (parts : StructureSets) (hand : FrameHand) (p : FramePlace) → IsFrame met parts hand p → step_of p ≡ step_at p (frame_held hand)
step_in_hand met parts hand p k = ap (step_at p) k.walk.held

pub effect_in_hand : {W : Type 0} (transacts : W → Ask → List ℕ → Reply → W → Type 0) (met : ℕ → Option Kind) (parts : StructureSets) (hand : FrameHand) (p : FramePlace) (wire : W) (new : FramePlace) (after : W) → IsFrame met parts hand p
    → Leads transacts p wire new after → DoesAtHand transacts hand p wire new after
effect_in_hand transacts met parts hand p wire new after k leads = subst (λ (h : Option Hand). HasEffect transacts (effect_at p h) wire new after) k.walk.held leads

-- a kind that has an effect
abbrev IsEffect : WalkStep → Type 0
IsEffect steps.Fault = ⊥
IsEffect _ = Unit {0}

has_effect : {W : Type 0} (transacts : W → Ask → List ℕ → Reply → W → Type 0) (met : ℕ → Option Kind) (parts : StructureSets) (hand : FrameHand) (wire after : W) (p new : FramePlace) (now : StructureSets) (later : FrameHand) (kind : WalkStep)
    → FrameEffect transacts parts p.walk hand wire after now later kind → IsEffect kind
has_effect transacts met parts hand wire after p new now later kind (fetches a b c d) = tt
has_effect transacts met parts hand wire after p new now later kind _ = tt

pub no_fault_has_an_effect : {W : Type 0} (transacts : W → Ask → List ℕ → Reply → W → Type 0) (met : ℕ → Option Kind) (parts : StructureSets) (hand : FrameHand) (wire after : W) (p new : FramePlace) → FrameHappens transacts met parts hand wire after p new steps.Fault → ⊥
no_fault_has_an_effect transacts met parts hand wire after p new h = has_effect transacts met parts hand wire after p new h.now h.later steps.Fault h.effect

pub no_step_refuses_a_word : {W : Type 0} (transacts : W → Ask → List ℕ → Reply → W → Type 0) (met : ℕ → Option Kind) (parts : StructureSets) (hand : FrameHand) (wire after : W) (p new : FramePlace) → p.registers.run ≡ true
    → Leads transacts p wire new after → FrameHappens transacts met parts hand wire after p new (step_of p) → new.memory.foreign ≡ p.memory.foreign
no_step_refuses_a_word transacts met parts hand wire after p new runs leads h =
    ⊎_elim (λ (same : new.memory.foreign ≡ p.memory.foreign). same)
    (λ (other : new.memory.foreign ≢ p.memory.foreign).
    absurd (true≢false (sym runs ∙ sym (ap (λ (b : Base). b.run) h.registers) ∙ refusals_are_faults transacts p new wire after leads other))) (cases_eq new.memory.foreign p.memory.foreign)
