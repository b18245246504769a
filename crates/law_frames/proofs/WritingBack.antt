-- A copy whose transaction isn't written back is in hand: that comes next, and the visit goes on or is over. So it is where a microframe of a split transaction was
-- missed.
use Rattle.std.proofs.Common.{◌≡◌, ℕ, Bool, true, false, if◌then◌else◌, List, Option, Some, None, ap, refl, sym, subst, ◌∙◌}
use Rattle.usb_base.specs.declared.packets.Ask.{Ask}
use Rattle.usb_base.specs.declared.packets.Reply.{Reply}
use Rattle.link_words.specs.declared.fields.LinkBits.{LinkBits}
use Rattle.link_words.specs.Links.{link_of}
use Rattle.op_registers.specs.RegisterFile.{RegisterFile}
use Rattle.qh_qtd.specs.declared.queue_head.Qh.{Qh}
use Rattle.toggle_error.specs.declared.host.Outcome.{Outcome}
use Rattle.hc_copy.specs.declared.held.Held.{Held}
use Rattle.hc_copy.specs.Buffer.{Writing}
use Rattle.hc_copy.specs.WriteBack.{written_back, raised}
use Rattle.hc_interrupt.specs.declared.turns.Turn.TheVariants as turns
use Rattle.hc_interrupt.specs.Turns.{turn_of}
use Rattle.hc_interrupt.specs.Copies.{missed_copy, goes_on, again_copy}
use Rattle.async_walk.specs.declared.state.WalkStep.{WalkStep}
use Rattle.async_walk.specs.declared.state.WalkStep.TheVariants as steps
use Rattle.periodic_walk.specs.declared.state.Hand.{Hand}
use Rattle.periodic_walk.specs.declared.state.Hand.TheVariants as hands
use Rattle.periodic_walk.specs.declared.state.HeldQueue.{HeldQueue}
use Rattle.periodic_walk.specs.Place.{FramePlace, holding, passed, HasEffect}
use Rattle.periodic_walk.specs.Queue.{wrote_at, wrote, wrote_step, miss_outcome}
use Rattle.periodic_walk.specs.Rows.{step_at, step_of, effect_at, Leads}
use Rattle.law_structures.specs.lent_structures.Structures.{StructureSets}
use Rattle.law_ring.specs.Hand.{Copy, copied_queue}
use Rattle.claims_base.specs.Controller.{base_of}
use Rattle.law_frames.specs.Met.{Kind, LeadsTo}
use Rattle.law_frames.specs.FrameHand.{QueueSettlement, settled_in, FrameHand, Nothing, OfQueue, OfSettled}
use Rattle.law_frames.specs.Frame.{IsCopiedQueue, IsQueueSettled, IsFrameWalk, IsFrame}
use Rattle.law_frames.specs.FrameEffects.{queue_written, after_back, missed_settlement, IsSettledFrom, was_worked, was_missed, FrameHappens}
use Rattle.law_frames.specs.FrameEffects.WritesOne.{of_queue}
use Rattle.law_frames.specs.FrameEffects.FrameEffect.{writes}
use Rattle.law_frames.specs.Visits.{back_of, IsWrittenBack}
use Rattle.law_frames.specs.QueueVisitLaws.{held_copy, held_settled}
use Rattle.law_frames.proofs.QueueBacks.{settled_facts, copy_misses, hand_is_settled}
use Rattle.law_frames.proofs.Writing.{copy_written, received_same, write_back_keeps_visit}
use Rattle.law_frames.proofs.Framing.{visit_there, frame_after}

raised_base : (q : Qh) (o : Outcome) (r : RegisterFile) → base_of (raised q o r) ≡ base_of r
unfolding raised
raised_base q o r = refl

module _ {W : Type 0} (transacts : W → Ask → List ℕ → Reply → W → Type 0) (met : ℕ → Option Kind) (parts : StructureSets) (wire after : W) (p new : FramePlace) (c : Copy) (z : QueueSettlement) (made : ℕ) (hand : FrameHand) (from : IsSettledFrom p.walk hand c z made) where
  abbrev held : HeldQueue
  held = record { copy = held_settled c z; made = made }

  abbrev Happens : WalkStep → Type 0
  Happens s = FrameHappens transacts met parts hand wire after p new s

  settled_there : IsFrame met parts hand p → IsCopiedQueue met parts c × IsQueueSettled c.queue p.walk.reply z
  settled_there k = hand_is_settled met parts p.walk hand c z made k.walk.in_hand from

  -- the place after it, by whether the visit goes on
  abbrev back_place : Bool → FramePlace
  back_place b = record p {
    walk = if b then holding (hands.Queue (record held { copy = again_copy z.outcome held.copy })) p.walk else passed (settled_in c z).link p.walk;
    registers = raised (settled_in c z) z.outcome p.registers;
    memory = (back_of c z p.memory).memory;
  }

  abbrev back_hand : Bool → FrameHand
  back_hand b = if b then OfQueue (record c { queue = queue_written c z }) made else Nothing

  back_walk : IsFrame met parts hand p → (w : IsWrittenBack met p.memory parts c z) (b : Bool) → IsFrameWalk met w.now (back_hand b) (back_place b)
  back_walk k w true = record {
    cursor = k.walk.cursor;
    held = ap (λ (x : Qh). Some (hands.Queue (record { copy = record { at = c.at; queue_head = x; settled = None }; made = made }))) (copy_written c z);
    in_hand = w.visit.copied;
  }
  back_walk k w false = record {
    cursor = subst (λ (l : LinkBits). LeadsTo met (link_of l)) (sym (settled_facts c z).link) (settled_there k).0.link;
    held = refl;
    in_hand = tt;
  }

  back_happens : IsFrame met parts hand p → (w : IsWrittenBack met p.memory parts c z) → (new ≡ back_place (goes_on made (settled_in c z) z.outcome)) × (after ≡ wire) → Happens steps.WriteBack
  back_happens k w lead =
      let b : Bool = goes_on made (settled_in c z) z.outcome in
      record {
        now = w.now;
        later = after_back c z made;
        frame = subst (IsFrame met w.now (after_back c z made)) (sym lead.0)
            (frame_after met parts w.now hand (after_back c z made) p (back_place b) (record c { queue = queue_written c z }) k w.only w.visit (back_walk k w b));
        registers = ap (λ (x : FramePlace). base_of x.registers) lead.0 ∙ raised_base (settled_in c z) z.outcome p.registers;
        effect = writes (of_queue (w.writes p.walk hand made from)) lead.1;
      }

  -- by what was written, and whether all of it was
  abbrev WritingHappens : Writing → Type 0
  WritingHappens w = (new ≡ wrote_at w.all held z.outcome (record p { memory = w.memory })) × (after ≡ wire) → Happens (if w.all then steps.WriteBack else steps.Fault)

  whole_happens : (w : IsWrittenBack met p.memory parts c z) → ((new ≡ back_place (goes_on made (settled_in c z) z.outcome)) × (after ≡ wire) → Happens steps.WriteBack) → WritingHappens (back_of c z p.memory)
  whole_happens w by =
      subst (λ (b : Bool). (new ≡ wrote_at b held z.outcome (record p { memory = (back_of c z p.memory).memory })) × (after ≡ wire) → Happens (if b then steps.WriteBack else steps.Fault)) (sym w.whole) by

  pub wrote_happens : IsFrame met parts hand p → (new ≡ wrote held z.outcome p) × (after ≡ wire) → Happens (wrote_step held z.outcome p)
  wrote_happens k =
      let is : IsCopiedQueue met parts c × IsQueueSettled c.queue p.walk.reply z = settled_there k in
      let w : IsWrittenBack met p.memory parts c z = write_back_keeps_visit met p.memory parts c z p.walk.reply (visit_there met parts hand p c k is.0) is.1 in
      subst (λ (got : List ℕ). WritingHappens (written_back c.at (settled_in c z) z.outcome got p.memory)) (sym (received_same c z p.walk.reply ∙ sym is.1.came_to.got))
      (whole_happens w (back_happens k w))

pub each_event_at_a_settled_queue_head : {W : Type 0} (transacts : W → Ask → List ℕ → Reply → W → Type 0) (met : ℕ → Option Kind) (parts : StructureSets) (wire after : W) (p new : FramePlace) (c : Copy) (z : QueueSettlement) (made : ℕ)
    → IsFrame met parts (OfSettled c z made) p → Leads transacts p wire new after → FrameHappens transacts met parts (OfSettled c z made) wire after p new (step_of p)
each_event_at_a_settled_queue_head transacts met parts wire after p new c z made k =
    subst (λ (o : Option Hand). HasEffect transacts (effect_at p o) wire new after → FrameHappens transacts met parts (OfSettled c z made) wire after p new (step_at p o)) (sym k.walk.held)
    (wrote_happens transacts met parts wire after p new c z made (OfSettled c z made) (was_worked refl) k)

-- a miss is written back at once
pub miss_happens : {W : Type 0} (transacts : W → Ask → List ℕ → Reply → W → Type 0) (met : ℕ → Option Kind) (parts : StructureSets) (wire after : W) (p new : FramePlace) (c : Copy) (made : ℕ)
    → IsFrame met parts (OfQueue c made) p → turn_of p.walk.index (copied_queue c) ≡ turns.Miss
    → (new ≡ wrote (record { copy = missed_copy (held_copy c); made = made }) miss_outcome p) × (after ≡ wire) → FrameHappens transacts met parts (OfQueue c made) wire after p new (wrote_step (record { copy = missed_copy (held_copy c); made = made }) miss_outcome p)
miss_happens transacts met parts wire after p new c made k turn =
    let z : QueueSettlement = missed_settlement c.queue in
    subst (λ (h : Held). (new ≡ wrote (record { copy = h; made = made }) miss_outcome p) × (after ≡ wire) → FrameHappens transacts met parts (OfQueue c made) wire after p new (wrote_step (record { copy = h; made = made }) miss_outcome p))
    (sym (copy_misses c)) (wrote_happens transacts met parts wire after p new c z made (OfQueue c made) (was_missed refl turn refl) k)
