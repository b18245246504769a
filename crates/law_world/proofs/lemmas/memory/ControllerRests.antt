-- What an event of the controller leaves of a new queue head that rests at the inactive qTD at its end, its only one: all, whatever the walk of the frames meets of it by
-- then (EHCI 1.0, 4.10.2). It has no qTD to take, and nothing to write back.
use Rattle.std.proofs.Common.{◌≡◌, ◌≢◌, ℕ, ◌*◌, Bool, true, false, List, Option, Some, ap, refl, sym, subst, ◌∙◌, ⊎_elim}
use Rattle.std.proofs.lemmas.Bool.{cases_eq, true≢false}
use Rattle.law_frames.proofs.Common.{written_from, no_itd, no_sitd}
use Rattle.usb_base.specs.declared.packets.Ask.{Ask}
use Rattle.usb_base.specs.declared.packets.Reply.{Reply}
use Rattle.qh_qtd.specs.declared.qtd.Qtd.{Qtd}
use Rattle.qh_qtd.specs.declared.queue_head.Qh.{Qh}
use Rattle.hc_copy.specs.Overlay.{advanced}
use Rattle.hc_copy.specs.WriteBack.{moved_by}
use Rattle.hc_iso.specs.WriteBack.{sitd_received, moved_by as sitd_moved_by}
use Rattle.async_walk.specs.declared.state.WalkStep.{WalkStep}
use Rattle.periodic_walk.specs.Walk.{Walk}
use Rattle.hc_core.specs.Controller.{Content, walk_place}
use Rattle.drv_table.specs.declared.content.Endpoint.{Endpoint}
use Rattle.drv_table.specs.Words.{dummy_qtd}
use Rattle.law_structures.specs.lent_structures.Structures.{QueueHead, Element, Isochronous, SplitIsochronous, Structures, StructureSets}
use Rattle.law_structures.specs.lent_structures.WriteBack.{received_parts}
use Rattle.law_structures.proofs.lemmas.lent_structures.Names.{put_beside}
use Rattle.law_structures.proofs.lemmas.lent_structures.Found.{received_beside, back_beside}
use Rattle.law_structures.proofs.lemmas.lent_structures.Altering.{found_queue}
use Rattle.law_ring.specs.Hand.{Hand}
use Rattle.claims_base.specs.Controller.{Base}
use Rattle.law_ring.specs.Effects.{received_into}
use Rattle.law_controller.specs.controlled_streams.Control.{a_microframe, a_step}
use Rattle.law_queues.specs.open_laws.Queues.{IsNewPart}
use Rattle.law_frames.specs.Met.{Kind}
use Rattle.law_frames.specs.FrameHand.{settled_in, FrameHand}
use Rattle.law_frames.specs.Frame.{IsQueueSettled, IsCopiedQueue, IsCopiedItd, IsCopiedSitd, IsInFrame}
use Rattle.law_frames.specs.FrameEffects.{itd_back, sitd_back, WritesOne, of_queue, of_itd, of_sitd, FrameEffect, fetches, passes, ends, makes, takes, writes}
use Rattle.law_frames.proofs.QueueBacks.{hand_is_settled}
use Rattle.law_controller.specs.frame_control.Both.{RunsBoth, BothEffect, of_ring, of_frame}
use Rattle.law_controller.proofs.lemmas.frame_control.Staying.{ring_leaves}
use Rattle.law_descriptors.specs.Both.{both, parts_now}
use Rattle.law_descriptors.proofs.lemmas.queue_events.Beside.{beside}
use Rattle.drv_table.specs.DriverContent.{DriverContent}
use Rattle.hc_core.specs.declared.controller.ControllerRow.{ControllerRow}
use Rattle.law_world.specs.memory.framed_memory.Now.{IsFramedNow, recent_then, FramedNowAfter}
use Rattle.law_world.proofs.lemmas.memory.lemmas.framed_memory.ChainedLent.{chain_stays_lent}
use Rattle.law_world.specs.memory.Mixed.{IsChainThere}
use Rattle.law_descriptors.specs.Meeting.{met}
use Rattle.law_world.proofs.lemmas.memory.ChainNew.{its_qtd}

-- ---- no qTD of it is published

none_published : (x : Endpoint) (part : Structures) (a : ℕ) (t : Qtd) → IsNewPart x part → part a ≡ Some (Element t) → t.token.active ≡ true → ⊥
none_published x part a t k here published =
    let dummy : t ≡ dummy_qtd = its_qtd x part k a t here in
    true≢false (sym published ∙ ap (λ (u : Qtd). u.token.active) dummy)

-- ---- an event of the walk of the frames

module _ (met : ℕ → Option Kind) (parts : StructureSets) (w : Walk) (hand : FrameHand) (now : StructureSets) (later : FrameHand) (x : Endpoint) (k : IsNewPart x (parts (32 * x.queue))) (in_hand : IsInFrame met parts w.got w.reply hand) where
  abbrev n : ℕ
  n = 32 * x.queue

  write_rests : WritesOne parts w hand now later → now n ≡ parts n
  write_rests (of_queue r) =
      let from : IsCopiedQueue met parts r.copy × IsQueueSettled r.copy.queue w.reply r.settled = hand_is_settled met parts w hand r.copy r.settled r.made in_hand r.from in
      ⊎_elim
      (λ (same : n ≡ r.copy.at).
      let head : k.queue ≡ r.copy.queue = found_queue (parts n n) k.queue r.copy.queue k.here (ap (λ (i : ℕ). parts i i) same ∙ from.0.here) in
      absurd (true≢false (sym from.1.came_to.works ∙ ap (λ (q : Qh). q.token.active) (sym head) ∙ k.rests.idle)))
      (λ (differs : n ≢ r.copy.at).
      ap (λ (ps : StructureSets). ps n) r.now_is
      ∙ back_beside parts r.copy.at r.copy.at r.copy.queue (settled_in r.copy r.settled) (moved_by r.settled.outcome) r.settled.got (received_into (parts r.copy.at) r.copy.queue r.element r.settled.got)
      r.element n differs)
      (cases_eq n r.copy.at)
  write_rests (of_itd r) =
      let copied : IsCopiedItd met parts w.got r.copy = subst (IsInFrame met parts w.got w.reply) r.in_hand in_hand in
      let differs : n ≢ r.copy.held.at = no_itd parts n k.queue r.copy k.here copied.here in
      ap (λ (ps : StructureSets). ps n) r.now_is
      ∙ put_beside (received_parts parts r.copy.held.at w.got r.into) r.copy.held.at r.copy.held.at (Isochronous (itd_back r.copy)) n differs
      ∙ received_beside parts r.copy.held.at w.got r.into n differs
  write_rests (of_sitd r) =
      let copied : IsCopiedSitd met parts w.reply r.copy = subst (IsInFrame met parts w.got w.reply) r.in_hand in_hand in
      let differs : n ≢ r.back.held.at = subst (λ (a : ℕ). n ≢ a) (sym (written_from w r.copy r.back r.written)) (no_sitd parts n k.queue r.copy k.here copied.here) in
      let got = sitd_received r.back.held.sitd.dir_in r.outcome w.reply in
      ap (λ (ps : StructureSets). ps n) r.now_is
      ∙ put_beside (received_parts parts r.back.held.at got r.into) r.back.held.at r.back.held.at (SplitIsochronous (sitd_back r.back (sitd_moved_by r.outcome))) n differs
      ∙ received_beside parts r.back.held.at got r.into n differs

  frame_rests : {W : Type 0} (transacts : W → Ask → List ℕ → Reply → W → Type 0) (wire after : W) (kind : WalkStep) → FrameEffect transacts parts w hand wire after now later kind → now n ≡ parts n
  frame_rests transacts wire after _ (fetches none r same quiet) = ap (λ (ps : StructureSets). ps n) same
  frame_rests transacts wire after _ (passes r nothing same quiet) = ap (λ (ps : StructureSets). ps n) same
  frame_rests transacts wire after _ (ends none nothing same quiet) = ap (λ (ps : StructureSets). ps n) same
  frame_rests transacts wire after _ (makes r same) = ap (λ (ps : StructureSets). ps n) same
  frame_rests transacts wire after _ (takes r quiet) =
      let t = r.takes in
      ⊎_elim
      (λ (same : n ≡ t.copy.at). absurd (none_published x (parts n) t.element t.qtd k (ap (λ (i : ℕ). parts i t.element) same ∙ t.here) t.published))
      (λ (differs : n ≢ t.copy.at).
      ap (λ (ps : StructureSets). ps n) t.now_is ∙ put_beside parts t.copy.at t.copy.at (QueueHead (advanced t.copy.queue t.element t.qtd)) n differs)
      (cases_eq n t.copy.at)
  frame_rests transacts wire after _ (writes r quiet) = write_rests r

-- ---- an event of either walk

module _ {W : Type 0} (begins : W → ℕ → Bool → W → Type 0) (transacts : W → Ask → List ℕ → Reply → W → Type 0) (base : Base) (member : ℕ → Bool) (met : ℕ → Option Kind) (descs parts : StructureSets) (hand : Hand) (frame : FrameHand) (c : Content) (wire after : W) (now : StructureSets) (later : Hand) (frame_later : FrameHand) (runs : RunsBoth base member met (both descs parts) hand frame c)
    (effect : BothEffect begins transacts (both descs parts) c.control hand frame wire after now later frame_later) where
  module _ (x : Endpoint) (off : member (32 * x.queue) ≡ false) where
    event_rests : BothEffect begins transacts (both descs parts) c.control hand frame wire after now later frame_later → IsNewPart x (both descs parts (32 * x.queue))
        → now (32 * x.queue) ≡ both descs parts (32 * x.queue)
    event_rests (of_ring (a_microframe b) nothing) k = ap (λ (ps : StructureSets). ps (32 * x.queue)) b.parts_stay
    event_rests (of_ring (a_step w) nothing) k =
        ring_leaves transacts base member (both descs parts) hand (walk_place c) wire after now later w.kind (32 * x.queue) runs.ring w.effect
        (λ a on same. true≢false (sym on ∙ ap member (sym same) ∙ off))
    event_rests (of_frame w) k =
        frame_rests met (both descs parts) c.control.frame frame now frame_later x k (runs.walk w.part).in_hand transacts wire after w.kind w.effect

    -- .. as it was
    Rests : Structures → Structures → Type 0
    Rests part new = IsNewPart x part → new ≡ part

    rests_left : IsNewPart x (parts (32 * x.queue)) → parts_now descs parts now (32 * x.queue) ≡ parts (32 * x.queue)
    unfolding Rests
    rests_left = beside descs parts now Rests (32 * x.queue) (λ k. refl) (λ same k. event_rests effect k)

  -- .. of an unfinished open, also while it is linked in frames
  pub new_part_stays : (x : Endpoint) → member (32 * x.queue) ≡ false → IsNewPart x (parts (32 * x.queue)) → IsNewPart x (parts_now descs parts now (32 * x.queue))
  new_part_stays x off k = subst (IsNewPart x) (sym (rests_left x off k)) k

-- so an interrupt endpoint's open goes on waiting for its next store
pub chain_there_stays : {W : Type 0} (begins : W → ℕ → Bool → W → Type 0) (transacts : W → Ask → List ℕ → Reply → W → Type 0) (base : Base) (member : ℕ → Bool) (recent : ℕ → Option Kind) (descs parts : StructureSets) (hand : Hand) (frame : FrameHand) (c : Content) (d : DriverContent) (wire : W) (new : Content) (after : W) (row : ControllerRow)
    → IsFramedNow base member recent descs parts hand frame c d → (e : FramedNowAfter begins transacts base member (recent_then row recent) descs parts hand frame c d wire after new) → IsChainThere d member recent parts
    → IsChainThere d member (recent_then row recent) (parts_now descs parts e.now)
chain_there_stays begins transacts base member recent descs parts hand frame c d wire new after row k e t = record {
  lent = chain_stays_lent begins transacts base member recent descs parts hand frame c d wire new after row k e t.lent;
  there = record {
    number = t.there.number;
    endpoint = t.there.endpoint;
    here = t.there.here;
    command = t.there.command;
    fresh = t.there.fresh;
    none = t.there.none;
    part = new_part_stays begins transacts base member (met d recent) descs parts hand frame c wire after e.now e.later e.frame_later k.framed.runs e.effect t.there.endpoint t.unmet t.there.part;
  };
  unmet = t.unmet;
}
