-- However many events follow each other.
use Rattle.std.proofs.Common.{◌≡◌, ℕ, List, Option, ap, refl, subst, ◌∙◌}
use Rattle.usb_base.specs.declared.packets.Ask.{Ask}
use Rattle.usb_base.specs.declared.packets.Reply.{Reply}
use Rattle.async_walk.specs.declared.state.WalkStep.{WalkStep}
use Rattle.async_walk.specs.declared.state.WalkStep.TheVariants as steps
use Rattle.periodic_walk.specs.Place.{FramePlace}
use Rattle.periodic_walk.specs.Rows.{step_of}
use Rattle.law_structures.specs.lent_structures.Structures.{StructureSets}
use Rattle.claims_base.specs.Controller.{Base}
use Rattle.law_frames.specs.Met.{Kind}
use Rattle.law_frames.specs.FrameHand.{FrameHand}
use Rattle.law_frames.specs.Frame.{IsFrame}
use Rattle.law_frames.specs.FrameEffects.{FrameEffect, FrameHappens}
use Rattle.law_frames.specs.Walks.{HearsBytes, Walks, over, and_then, IsNoFault, none, first, IsWalked}
use Rattle.law_frames.proofs.Leaving.{unmet_stays}
use Rattle.law_frames.proofs.Walking.{event_happens, foreign_stays, no_event_is_a_fault}

not_the_fault : (kind : WalkStep) → (kind ≡ steps.Fault → ⊥) → IsNoFault kind
not_the_fault steps.Fault other = other refl
not_the_fault _ other = tt

module _ {W : Type 0} (transacts : W → Ask → List ℕ → Reply → W → Type 0) (met : ℕ → Option Kind) (heard : HearsBytes transacts) (new : FramePlace) (after : W) where
  pub walked : (parts : StructureSets) (hand : FrameHand) (kinds : List WalkStep) (p : FramePlace) (wire : W) → IsFrame met parts hand p → Walks transacts new after kinds p wire → IsWalked transacts met parts hand wire after p new kinds
  walked parts hand kinds p wire k over = record { now = parts; later = hand; frame = k; events = none; beside = λ n other. refl; registers = refl; no_faults = tt; not_refused = λ runs. refl }
  walked parts hand kinds p wire k (and_then kind rest from mid before between is leads more) =
      let e : FrameHappens transacts met parts hand wire between p mid (step_of p) = event_happens transacts met parts hand p wire mid between k (heard wire between) leads in
      let h : FrameHappens transacts met parts hand wire between p mid kind = record {
        now = e.now;
        later = e.later;
        frame = e.frame;
        registers = e.registers;
        effect = subst (FrameEffect transacts parts p.walk hand wire between e.now e.later) is e.effect;
      } in
      let w : IsWalked transacts met h.now h.later between after mid new rest = walked h.now h.later rest mid between h.frame more in
      record {
        now = w.now;
        later = w.later;
        frame = w.frame;
        events = first kind rest p mid wire between parts hand is leads h w.events;
        beside = λ n other. w.beside n other ∙ unmet_stays transacts met parts hand p wire between h.now h.later kind k h.effect n other;
        registers = w.registers ∙ h.registers;
        no_faults = (not_the_fault kind (λ fault. no_event_is_a_fault met parts hand p k (is ∙ fault)), w.no_faults);
        not_refused = λ runs.
            w.not_refused (ap (λ (b : Base). b.run) h.registers ∙ runs)
            ∙ foreign_stays transacts met parts hand p wire mid between k runs (heard wire between) leads;
      }
