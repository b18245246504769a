-- Each event, by what is in hand; and none is the fault.
use Rattle.std.proofs.Common.{◌≡◌, ℕ, true, List, Option, refl, subst}
use Rattle.usb_base.specs.declared.packets.Ask.{Ask}
use Rattle.usb_base.specs.declared.packets.Pid.{Pid}
use Rattle.usb_base.specs.declared.packets.Reply.{Reply}
use Rattle.usb_base.specs.declared.packets.Reply.TheVariants as replies
use Rattle.async_walk.specs.declared.state.WalkStep.TheVariants as steps
use Rattle.periodic_walk.specs.Place.{FramePlace, Effect, HasEffect}
use Rattle.periodic_walk.specs.Place.Effect.{Leaves, Asks}
use Rattle.periodic_walk.specs.Rows.{step_of, effect_of, Leads}
use Rattle.law_structures.specs.lent_structures.Structures.{StructureSets}
use Rattle.law_ring.specs.Effects.{AreBytesHeard}
use Rattle.law_frames.specs.Met.{Kind}
use Rattle.law_frames.specs.FrameHand.{FrameHand, Nothing, OfQueue, OfSettled, OfItd, OfSitd}
use Rattle.law_frames.specs.Frame.{IsFrame}
use Rattle.law_frames.specs.FrameEffects.{FrameHappens}
use Rattle.law_frames.proofs.StepStepping.{no_fault_has_an_effect, no_step_refuses_a_word}
use Rattle.law_frames.proofs.Fetching.{each_event_with_nothing_in_hand}
use Rattle.law_frames.proofs.QueueStepStepping.{copied_event}
use Rattle.law_frames.proofs.WritingBack.{each_event_at_a_settled_queue_head}
use Rattle.law_frames.proofs.Happening.{each_event_at_an_itd}
use Rattle.law_frames.proofs.Steps.{sitd_happens}

module _ {W : Type 0} (transacts : W → Ask → List ℕ → Reply → W → Type 0) (met : ℕ → Option Kind) (parts : StructureSets) where
  pub event_happens : (hand : FrameHand) (p : FramePlace) (wire : W) (new : FramePlace) (after : W) → IsFrame met parts hand p → AreBytesHeard transacts wire after → Leads transacts p wire new after → FrameHappens transacts met parts hand wire after p new (step_of p)
  event_happens Nothing p wire new after k heard leads = each_event_with_nothing_in_hand transacts met parts p wire new after k heard leads
  event_happens (OfQueue c made) p wire new after k heard leads = copied_event transacts met parts wire after p new c made k heard leads
  event_happens (OfSettled c s made) p wire new after k heard leads =
      each_event_at_a_settled_queue_head transacts met parts wire after p new c s made k leads
  event_happens (OfItd c) p wire new after k heard leads = each_event_at_an_itd transacts met parts c p wire new after k heard leads
  event_happens (OfSitd c) p wire new after k heard leads = sitd_happens transacts met parts c p wire new after k heard leads

  pub foreign_stays : (hand : FrameHand) (p : FramePlace) (wire : W) (new : FramePlace) (after : W) → IsFrame met parts hand p → p.registers.run ≡ true → AreBytesHeard transacts wire after → Leads transacts p wire new after → new.memory.foreign ≡ p.memory.foreign
  foreign_stays hand p wire new after k runs heard leads = no_step_refuses_a_word transacts met parts hand wire after p new runs leads (event_happens hand p wire new after k heard leads)

-- ---- over a wire that is silent, whatever is asked

abbrev is_silent : Unit {0} → Ask → List ℕ → Reply → Unit {0} → Type 0
is_silent before ask out reply after = reply ≡ replies.Silent

no_bytes : (pid : Pid) (bs : List ℕ) → replies.Bytes pid bs ≡ replies.Silent → ⊥
no_bytes pid bs e = cc

none_heard : AreBytesHeard is_silent tt tt
none_heard ask out pid bs made i = absurd (no_bytes pid bs made)

-- the place that an effect leaves there
abbrev left_there : Effect → FramePlace
left_there (Leaves q) = q
left_there (Asks ask out left_by) = left_by replies.Silent

leads_there : (e : Effect) → HasEffect is_silent e tt (left_there e) tt
leads_there (Leaves q) = (refl, refl)
leads_there (Asks ask out left_by) = record { reply = replies.Silent; made = refl; place = refl }

pub no_event_is_a_fault : (met : ℕ → Option Kind) (parts : StructureSets) (hand : FrameHand) (p : FramePlace) → IsFrame met parts hand p → step_of p ≡ steps.Fault → ⊥
no_event_is_a_fault met parts hand p k is =
    no_fault_has_an_effect is_silent met parts hand tt tt p (left_there (effect_of p))
    (subst (FrameHappens is_silent met parts hand tt tt p (left_there (effect_of p))) is
    (event_happens is_silent met parts hand p tt (left_there (effect_of p)) tt k none_heard (leads_there (effect_of p))))
