-- A copy of a queue head without a transaction is in hand: it is passed, takes a qTD, or has its transaction.
use Rattle.std.proofs.Common.{◌≡◌, ℕ, ◌+◌, min, Bool, true, false, if◌then◌else◌, List, Option, Some, None, ap, refl, sym, subst}
use Rattle.usb_base.specs.declared.packets.Ask.{Ask}
use Rattle.usb_base.specs.declared.packets.Reply.{Reply}
use Rattle.link_words.specs.declared.kinds.QtdLink.TheVariants as qtd_links
use Rattle.link_words.specs.Links.{qtd_link_of}
use Rattle.qh_qtd.specs.declared.qtd.Qtd.{Qtd}
use Rattle.qh_qtd.specs.declared.queue_head.Qh.{Qh}
use Rattle.hc_copy.specs.declared.held.Held.{Held}
use Rattle.hc_copy.specs.declared.held.Transaction.{Transaction}
use Rattle.hc_copy.specs.Visits.{next_pointer}
use Rattle.hc_copy.specs.Overlay.{advanced}
use Rattle.hc_copy.specs.Buffer.{Reading}
use Rattle.hc_copy.specs.Transacting.{call_in}
use Rattle.hc_copy.specs.WriteBack.{overlay_after}
use Rattle.hc_interrupt.specs.declared.turns.Turn.TheVariants as turns
use Rattle.hc_interrupt.specs.Turns.{turn_of, planned, is_last_of}
use Rattle.async_walk.specs.declared.state.WalkStep.{WalkStep}
use Rattle.async_walk.specs.declared.state.WalkStep.TheVariants as steps
use Rattle.periodic_walk.specs.declared.queue.QueueRow.{QueueRow}
use Rattle.periodic_walk.specs.declared.queue.QueueRow.TheVariants as rows
use Rattle.periodic_walk.specs.declared.state.HeldQueue.{HeldQueue}
use Rattle.periodic_walk.specs.declared.state.Hand.TheVariants as hands
use Rattle.periodic_walk.specs.Place.{FramePlace, faulted, holding, Effect, HasEffect, sent}
use Rattle.periodic_walk.specs.Queue.{with_queue, queue_step, queue_left_by, queue_effect}
use Rattle.law_structures.specs.lent_structures.Structures.{Element, StructureSets}
use Rattle.law_structures.proofs.lemmas.lent_structures.Reading.{head_reached}
use Rattle.law_ring.specs.Hand.{Copy, copied_queue}
use Rattle.claims_base.specs.Controller.{base_of}
use Rattle.law_ring.specs.Effects.{AreBytesHeard, taken}
use Rattle.law_frames.specs.Met.{Kind}
use Rattle.law_frames.specs.FrameHand.{FrameHand, Nothing, OfQueue, OfSettled}
use Rattle.law_frames.specs.Frame.{IsFrame}
use Rattle.law_frames.specs.FrameEffects.{frame_settlement, FrameHappens}
use Rattle.law_frames.specs.FrameEffects.MakesOne.{of_queue}
use Rattle.law_frames.specs.FrameEffects.FrameEffect.{passes, takes, makes}
use Rattle.law_frames.specs.Visits.{IsQueueVisit, AreAllSent}
use Rattle.law_frames.specs.QueueVisitLaws.{HasBytes, held_copy}
use Rattle.law_frames.proofs.QueueBacks.{marks_small}
use Rattle.law_frames.proofs.Taking.{taken_copy, taken_parts, taken_visit, taken_only}
use Rattle.law_frames.proofs.Making.{transaction_sends_its_bytes, settles, copy_settles}
use Rattle.law_frames.proofs.Framing.{visit_there, frame_after}

abbrev pub held_queue : Copy → ℕ → HeldQueue
held_queue c made = record { copy = held_copy c; made = made }

module _ {W : Type 0} (transacts : W → Ask → List ℕ → Reply → W → Type 0) (met : ℕ → Option Kind) (parts : StructureSets) (wire after : W) (p new : FramePlace) (c : Copy) (made : ℕ) where
  abbrev Happens : WalkStep → Type 0
  Happens s = FrameHappens transacts met parts (OfQueue c made) wire after p new s

  -- what a row at the place q leads to
  abbrev pub RowHappens : QueueRow → FramePlace → Type 0
  RowHappens r q = HasEffect transacts (queue_effect r (held_queue c made) q) wire new after → Happens (queue_step r (held_queue c made) q)

  -- ---- it is passed

  pub skip_happens : IsFrame met parts (OfQueue c made) p → RowHappens rows.Skip p
  skip_happens k lead = record {
    now = parts;
    later = Nothing;
    frame = subst (IsFrame met parts Nothing) (sym lead.0) (record { tells = k.tells; members = k.members; walk = record { cursor = k.walk.in_hand.link; held = refl; in_hand = tt } });
    registers = ap (λ (x : FramePlace). base_of x.registers) lead.0;
    effect = passes tt refl refl lead.1;
  }

  -- ---- a qTD is taken

  abbrev queue_taken : ℕ → Qtd → Qh
  queue_taken a t = advanced (copied_queue c) a t

  abbrev written_place : ℕ → Qtd → FramePlace
  written_place a t = record p { memory = overlay_after p.memory c.at (queue_taken a t) }

  abbrev taken_place : ℕ → Qtd → FramePlace
  taken_place a t = record (written_place a t) { walk = holding (hands.Queue (with_queue (held_queue c made) (queue_taken a t))) p.walk }

  taken_frame : IsFrame met parts (OfQueue c made) p → (a : ℕ) (t : Qtd) → parts c.at a ≡ Some (Element t) → t.token.active ≡ true → IsFrame met (taken_parts parts c a t) (OfQueue (taken c a t) made) (taken_place a t)
  taken_frame k a t here on =
      let v : IsQueueVisit met (overlay_after p.memory c.at (queue_taken a t)) (taken_parts parts c a t) (taken c a t) = taken_visit met p.memory parts c a t (visit_there met parts (OfQueue c made) p c k k.walk.in_hand) here on in
      frame_after met parts (taken_parts parts c a t) (OfQueue c made) (OfQueue (taken c a t) made) p (taken_place a t) (taken c a t) k (taken_only parts c a t) v
      (record {
        cursor = k.walk.cursor;
        held = ap (λ (x : Qh). Some (hands.Queue (record { copy = record { at = c.at; queue_head = x; settled = None }; made = made }))) (taken_copy c a t);
        in_hand = v.copied;
      })

  advance_happens : IsFrame met parts (OfQueue c made) p → c.queue.token.halted ≡ false → c.queue.token.active ≡ false → (a : ℕ) (t : Qtd) → qtd_link_of (next_pointer c.queue) ≡ qtd_links.To a → parts c.at a ≡ Some (Element t) → t.token.active ≡ true → (new ≡ taken_place a t) × (after ≡ wire) → Happens steps.Advance
  advance_happens k off idle a t leads here on lead = record {
    now = taken_parts parts c a t;
    later = OfQueue (taken c a t) made;
    frame = subst (IsFrame met (taken_parts parts c a t) (OfQueue (taken c a t) made)) (sym lead.0) (taken_frame k a t here on);
    registers = ap (λ (x : FramePlace). base_of x.registers) lead.0;
    effect = takes (record {
      copy = c;
      made = made;
      in_hand = refl;
      new = taken c a t;
      takes = record { copy = c; in_hand = refl; idle = idle; goes_on = off; element = a; qtd = t; leads = leads; here = here; published = on; now_is = refl; later_is = refl };
      later_is = refl;
    }) lead.1;
  }

  pub take_happens : IsFrame met parts (OfQueue c made) p → c.queue.token.halted ≡ false → c.queue.token.active ≡ false → (a : ℕ) (t : Qtd) → qtd_link_of (next_pointer c.queue) ≡ qtd_links.To a → parts c.at a ≡ Some (Element t) → t.token.active ≡ true → RowHappens (rows.Advance a t) p
  take_happens k off idle a t leads here on =
      subst (λ (b : Bool). (new ≡ (if b then taken_place a t else faulted (written_place a t))) × (after ≡ wire) → Happens (if b then steps.Advance else steps.Fault))
      (sym (head_reached p.memory parts c.at c.at c.queue k.tells k.walk.in_hand.here)) (advance_happens k off idle a t leads here on)

  -- ---- its transaction

  abbrev made_place : List ℕ → Reply → FramePlace
  made_place out reply = queue_left_by (planned (copied_queue c)) out (held_queue c made) p reply

  abbrev made_hand : List ℕ → Reply → FrameHand
  made_hand out reply = OfSettled c (frame_settlement p.walk.index c.queue out reply) (min (made + 1) 255)

  made_frame : IsFrame met parts (OfQueue c made) p → c.queue.token.active ≡ true → (s : AreAllSent p.memory parts c) (reply : Reply) → HasBytes reply → IsFrame met parts (made_hand s.out reply) (made_place s.out reply)
  made_frame k on s reply small = record {
    tells = k.tells;
    members = k.members;
    walk = record {
      cursor = k.walk.cursor;
      held = ap (λ (x : Held). Some (hands.Queue (record { copy = x; made = min (made + 1) 255 })))
          (copy_settles p.walk.index c s.out reply);
      in_hand = (k.walk.in_hand, settles p.walk.index c.queue s.out reply on (marks_small (copied_queue c) k.walk.in_hand.range).0 (marks_small (copied_queue c) k.walk.in_hand.range).1 s.are.count small);
    };
  }

  -- what a reading of its bytes leads to
  abbrev sent_from : Reading → Effect
  sent_from r =
      let t : Transaction = planned (copied_queue c) in
      let last : Bool = is_last_of p.walk.index (copied_queue c) in
      let there : FramePlace = record p { memory = r.memory } in
      sent r.all (call_in t r.bytes last).ask (call_in t r.bytes last).out (queue_left_by t r.bytes (held_queue c made) there) there

  asked_happens : IsFrame met parts (OfQueue c made) p → AreBytesHeard transacts wire after → c.queue.token.active ≡ true → turn_of p.walk.index (copied_queue c) ≡ turns.Work → (s : AreAllSent p.memory parts c) → HasEffect transacts (sent_from (record { bytes = s.out; memory = p.memory; all = true })) wire new after → Happens steps.Transact
  asked_happens k heard on turn s lead =
      let t : Transaction = planned (copied_queue c) in
      let last : Bool = is_last_of p.walk.index (copied_queue c) in
      record {
        now = parts;
        later = made_hand s.out lead.reply;
        frame = subst (IsFrame met parts (made_hand s.out lead.reply)) (sym lead.place)
            (made_frame k on s lead.reply
            (λ pid bs same. heard (call_in t s.out last).ask (call_in t s.out last).out pid bs (subst (λ (r : Reply). transacts wire (call_in t s.out last).ask (call_in t s.out last).out r after) same lead.made)));
        registers = ap (λ (x : FramePlace). base_of x.registers) lead.place;
        effect = makes (of_queue (record { copy = c; made = made; in_hand = refl; works = on; turn = turn; out = s.out; sent = s.are; reply = lead.reply; asked = lead.made; later_is = refl })) refl;
      }

  pub transact_happens : IsFrame met parts (OfQueue c made) p → AreBytesHeard transacts wire after → c.queue.token.active ≡ true → turn_of p.walk.index (copied_queue c) ≡ turns.Work → RowHappens (rows.Transact (planned (copied_queue c))) p
  transact_happens k heard on turn =
      let s : AreAllSent p.memory parts c = transaction_sends_its_bytes met p.memory parts c (visit_there met parts (OfQueue c made) p c k k.walk.in_hand) on in
      subst (λ (r : Reading). HasEffect transacts (sent_from r) wire new after → Happens (if r.all then steps.Transact else steps.Fault)) (sym s.read) (asked_happens k heard on turn s)
