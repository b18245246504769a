-- An event of the controller sets nothing of a descriptor active.
use Rattle.std.proofs.Common.{◌≡◌, ◌≢◌, ℕ, Bool, true, false, List, Option, Some, refl, ap, sym, subst, ◌∙◌, ⊎_elim}
use Rattle.std.proofs.lemmas.Bool.{true≢false, cases_eq}
use Rattle.law_world.proofs.Common.{head_no_sitd, head_no_itd}
use Rattle.law_ring.proofs.Common.{received_beside}
use Rattle.usb_base.specs.declared.packets.Ask.{Ask}
use Rattle.usb_base.specs.declared.packets.Reply.{Reply}
use Rattle.qh_qtd.specs.declared.queue_head.Qh.{Qh}
use Rattle.itd_sitd.specs.declared.itd.Itd.{Itd}
use Rattle.itd_sitd.specs.declared.sitd.Sitd.{Sitd}
use Rattle.itd_sitd.specs.Itd.{slot_of}
use Rattle.hc_iso.specs.declared.held.SplitOutcome.{SplitOutcome}
use Rattle.hc_iso.specs.Sitd.{moved_sitd, missed_sitd, missed_copy}
use Rattle.hc_iso.specs.WriteBack.{sitd_received, moved_by}
use Rattle.hc_copy.specs.WriteBack.{moved_by as queue_moved_by}
use Rattle.periodic_walk.specs.Place.{FramePlace}
use Rattle.async_walk.specs.declared.state.WalkStep.{WalkStep}
use Rattle.hc_core.specs.declared.controller.MicroframePart.TheVariants.{Periodic}
use Rattle.hc_core.specs.Controller.{Content, frame_place, walk_place}
use Rattle.law_structures.specs.lent_structures.Structures.{Structure, QueueHead, Isochronous, SplitIsochronous, StructureSets, put}
use Rattle.law_structures.specs.lent_structures.WriteBack.{received_parts}
use Rattle.law_structures.proofs.lemmas.lent_structures.Names.{put_beside, put_same}
use Rattle.law_ring.specs.Hand.{Copy, Hand, Copied}
use Rattle.claims_base.specs.Controller.{Base}
use Rattle.law_ring.specs.Effects.{Takes, received_into}
use Rattle.law_frames.specs.Met.{Kind}
use Rattle.law_frames.specs.FrameHand.{settled_in, ItdCopy, SitdCopy, FrameHand, OfQueue, OfItd, OfSitd}
use Rattle.law_frames.specs.Frame.{IsCopiedQueue, IsCopiedItd, IsCopiedSitd, IsInFrame, IsTurned, IsMoved, IsFrame, IsQueueSettled}
use Rattle.law_frames.specs.FrameEffects.{itd_back, sitd_back, TakesOne, WritesQueue, WritesItd, IsWrittenFrom, made, missed, WritesSitd, WritesOne, of_queue, of_itd, of_sitd, FrameEffect}
use Rattle.law_frames.specs.FrameEffects.FrameEffect.{fetches, passes, ends, takes, makes, writes}
use Rattle.law_frames.proofs.QueueBacks.{hand_is_settled}
use Rattle.law_frames.proofs.Queues.{a_members_part_is_linked}
use Rattle.law_controller.specs.controlled_streams.Control.{a_microframe, a_step}
use Rattle.law_controller.specs.frame_control.Both.{RunsBoth, BothEffect, of_ring, of_frame}
use Rattle.law_controller.proofs.lemmas.frame_control.Staying.{ring_leaves}
use Rattle.law_descriptors.specs.frame_keeps.Kept.{IsItdAfter}
use Rattle.law_descriptors.proofs.lemmas.frame_keeps.Keeping.{found_itd, found_sitd}
use Rattle.law_descriptors.proofs.lemmas.frame_keeps.Framing.{frame_keeps}
use Rattle.law_descriptors.proofs.Events.{back_beside}

as_copy : Hand → Copy → Copy
as_copy (Copied c) other = c
as_copy _ other = other

same_copy : (c d : Copy) → Copied c ≡ Copied d → c ≡ d
unfolding as_copy
same_copy c d e = ap (λ (h : Hand). as_copy h c) e

itd_no_sitd : (o : Option Structure) (w : Itd) (v : Sitd) → o ≡ Some (Isochronous w) → o ≡ Some (SplitIsochronous v) → ⊥
itd_no_sitd o w v one two = absurd (let e : Some (Isochronous w) ≡ Some (SplitIsochronous v) = sym one ∙ two in cc)

missed_off : (c : SitdCopy) (n : ℕ) → (sitd_back (record c { held = missed_copy c.held }) n).active ≡ false
unfolding moved_sitd missed_sitd
missed_off c n = refl

-- ---- a siTD, by an event of the walk of the frames

module _ (met : ℕ → Option Kind) (parts : StructureSets) (hand : FrameHand) (p : FramePlace) (k : IsFrame met parts hand p) (n : ℕ) (v : Sitd) (here : parts n n ≡ Some (SplitIsochronous v)) (off : v.active ≡ false) where
  abbrev Off : StructureSets → Type 0
  Off now = (w : Sitd) → now n n ≡ Some (SplitIsochronous w) → w.active ≡ false

  beside : (now : StructureSets) → now n ≡ parts n → Off now
  beside now same w there = ap (λ (x : Sitd). x.active) (sym (found_sitd (parts n n) v w here (ap (λ part. part n) (sym same) ∙ there))) ∙ off

  in_queue : (c : Copy) (count : ℕ) → hand ≡ OfQueue c count → IsCopiedQueue met parts c
  in_queue c count is = subst (IsInFrame met parts p.walk.got p.walk.reply) is k.walk.in_hand

  in_itd : (c : ItdCopy) → hand ≡ OfItd c → IsCopiedItd met parts p.walk.got c
  in_itd c is = subst (IsInFrame met parts p.walk.got p.walk.reply) is k.walk.in_hand

  in_sitd : (c : SitdCopy) → hand ≡ OfSitd c → IsCopiedSitd met parts p.walk.reply c
  in_sitd c is = subst (IsInFrame met parts p.walk.got p.walk.reply) is k.walk.in_hand

  took : (now : StructureSets) (later : FrameHand) → TakesOne parts hand now later → Off now
  took now later r =
      let t : Takes parts (Copied r.copy) now (Copied r.new) = r.takes in
      let head : parts t.copy.at t.copy.at ≡ Some (QueueHead t.copy.queue) =
      subst (λ (c : Copy). parts c.at c.at ≡ Some (QueueHead c.queue)) (same_copy r.copy t.copy t.in_hand) (in_queue r.copy r.made r.in_hand).here in
      beside now
      (ap (λ (ps : StructureSets). ps n) t.now_is
      ∙ put_beside parts t.copy.at t.copy.at _ n (λ at. head_no_sitd (parts n n) t.copy.queue v (subst (λ (i : ℕ). parts i i ≡ Some (QueueHead t.copy.queue)) (sym at) head) here))

  wrote_queue : (now : StructureSets) (later : FrameHand) → WritesQueue parts p.walk hand now later → Off now
  wrote_queue now later r =
      let both : IsCopiedQueue met parts r.copy × IsQueueSettled r.copy.queue p.walk.reply r.settled = hand_is_settled met parts p.walk hand r.copy r.settled r.made k.walk.in_hand r.from in
      beside now
      (ap (λ (ps : StructureSets). ps n) r.now_is
      ∙ back_beside parts r.copy.at r.copy.at r.copy.queue (settled_in r.copy r.settled) (queue_moved_by r.settled.outcome) r.settled.got
      (received_into (parts r.copy.at) r.copy.queue r.element r.settled.got) r.element n
      (λ at. head_no_sitd (parts n n) r.copy.queue v (subst (λ (i : ℕ). parts i i ≡ Some (QueueHead r.copy.queue)) (sym at) both.0.here) here))

  wrote_itd : (now : StructureSets) (later : FrameHand) → WritesItd parts p.walk hand now later → Off now
  wrote_itd now later r =
      let c : ItdCopy = r.copy in
      let apart : n ≢ c.held.at = λ at. itd_no_sitd (parts n n) c.itd v (subst (λ (i : ℕ). parts i i ≡ Some (Isochronous c.itd)) (sym at) (in_itd c r.in_hand).here) here in
      beside now
      (ap (λ (ps : StructureSets). ps n) r.now_is
      ∙ put_beside (received_parts parts c.held.at p.walk.got r.into) c.held.at c.held.at (Isochronous (itd_back c)) n apart
      ∙ received_beside parts c.held.at p.walk.got r.into n apart)

  -- it was active, or a microframe of it was missed
  back_off : (c back : SitdCopy) (o : SplitOutcome) → IsCopiedSitd met parts p.walk.reply c → (c.held.at ≡ n) → back.held.settled ≡ Some o → IsWrittenFrom p.walk c back
      → (sitd_back back (moved_by o)).active ≡ false
  back_off c back o copied at settled (made is) =
      let moved : IsMoved c p.walk.reply o = subst (IsTurned c p.walk.reply) (ap (λ (b : SitdCopy). b.held.settled) (sym is) ∙ settled) copied.turn in
      let its : parts n n ≡ Some (SplitIsochronous c.sitd) = subst (λ (i : ℕ). parts i i ≡ Some (SplitIsochronous c.sitd)) at copied.here in
      let was : v ≡ c.sitd = found_sitd (parts n n) v c.sitd here its in
      absurd (true≢false (sym moved.works ∙ ap (λ (x : Sitd). x.active) (sym was) ∙ off))
  back_off c back o copied at settled (missed unsettled turn is) =
      ap (λ (b : SitdCopy). (sitd_back b (moved_by o)).active) is ∙ missed_off c (moved_by o)

  back_at : (c back : SitdCopy) → IsWrittenFrom p.walk c back → back.held.at ≡ c.held.at
  back_at c back (made is) = ap (λ (b : SitdCopy). b.held.at) is
  back_at c back (missed unsettled turn is) = ap (λ (b : SitdCopy). b.held.at) is

  wrote_sitd : (now : StructureSets) (later : FrameHand) → WritesSitd parts p.walk hand now later → Off now
  wrote_sitd now later r =
      let back : SitdCopy = r.back in
      let got : List ℕ = sitd_received back.held.sitd.dir_in r.outcome p.walk.reply in
      let base : StructureSets = received_parts parts back.held.at got r.into in
      let new : Structure = SplitIsochronous (sitd_back back (moved_by r.outcome)) in
      let same : back.held.at ≡ r.copy.held.at = back_at r.copy back r.written in
      ⊎_elim
      (λ (at : n ≡ back.held.at).
      (λ (w : Sitd) (there : now n n ≡ Some (SplitIsochronous w)).
      let is : now n n ≡ Some new = ap (λ (ps : StructureSets). ps n n) r.now_is
      ∙ subst (λ (i : ℕ). put base back.held.at back.held.at new i i ≡ Some new) (sym at) (put_same base back.held.at back.held.at new) in
      ap (λ (x : Sitd). x.active) (sym (found_sitd (now n n) (sitd_back back (moved_by r.outcome)) w is there))
      ∙ back_off r.copy back r.outcome (in_sitd r.copy r.in_hand) (sym same ∙ sym at) r.settled r.written))
      (λ (apart : n ≢ back.held.at).
      beside now
      (ap (λ (ps : StructureSets). ps n) r.now_is ∙ put_beside base back.held.at back.held.at new n apart ∙ received_beside parts back.held.at got r.into n apart)) (cases_eq n back.held.at)

  wrote : (now : StructureSets) (later : FrameHand) → WritesOne parts p.walk hand now later → Off now
  wrote now later (of_queue r) = wrote_queue now later r
  wrote now later (of_itd r) = wrote_itd now later r
  wrote now later (of_sitd r) = wrote_sitd now later r

  frame_off : {W : Type 0} (transacts : W → Ask → List ℕ → Reply → W → Type 0) (wire after : W) (now : StructureSets) (later : FrameHand) (kind : WalkStep)
      → FrameEffect transacts parts p.walk hand wire after now later kind → Off now
  frame_off transacts wire after now later _ (fetches nothing r same quiet) = beside now (ap (λ (ps : StructureSets). ps n) same)
  frame_off transacts wire after now later _ (passes unsettled nothing same quiet) = beside now (ap (λ (ps : StructureSets). ps n) same)
  frame_off transacts wire after now later _ (ends none nothing same quiet) = beside now (ap (λ (ps : StructureSets). ps n) same)
  frame_off transacts wire after now later _ (makes r same) = beside now (ap (λ (ps : StructureSets). ps n) same)
  frame_off transacts wire after now later _ (takes r quiet) = took now later r
  frame_off transacts wire after now later _ (writes r quiet) = wrote now later r

-- ---- any event of either walk

module _ {W : Type 0} (begins : W → ℕ → Bool → W → Type 0) (transacts : W → Ask → List ℕ → Reply → W → Type 0) (base : Base) (member : ℕ → Bool) (met : ℕ → Option Kind) (parts : StructureSets) (hand : Hand) (frame : FrameHand) (c : Content) (wire after : W) (now : StructureSets) (later : Hand) (frame_later : FrameHand) (k : RunsBoth base member met parts hand frame c) (n : ℕ) where
  no_member : ((q : Qh) → parts n n ≡ Some (QueueHead q) → ⊥) → (b : Bool) → member n ≡ b → b ≡ false
  no_member none true on = let part =
      (a_members_part_is_linked member n (parts n) (k.ring.members n on)).part_is in absurd (none part.queue part.here)
  no_member none false off = refl

  as_frame : c.control.part ≡ Periodic → IsFrame met parts frame (frame_place c)
  as_frame part = record { tells = k.ring.tells; members = k.members; walk = k.walk part }

  pub itd_off : (v w : Itd) (u : ℕ) → parts n n ≡ Some (Isochronous v) → BothEffect begins transacts parts c.control hand frame wire after now later frame_later → now n n ≡ Some (Isochronous w)
      → (slot_of u v).active ≡ false → (slot_of u w).active ≡ false
  itd_off v w u here (of_ring (a_microframe b) nothing) there off =
      ap (λ (x : Itd). (slot_of u x).active) (sym (found_itd (parts n n) v w here (ap (λ (ps : StructureSets). ps n n) (sym b.parts_stay) ∙ there))) ∙ off
  itd_off v w u here (of_ring (a_step s) nothing) there off =
      let out : member n ≡ false = no_member (λ q head. head_no_itd (parts n n) q v head here) (member n) refl in
      let same = ring_leaves transacts base member parts hand (walk_place c) wire after now later s.kind n k.ring s.effect (λ a on at. true≢false (sym on ∙ ap member (sym at) ∙ out)) in
      ap (λ (x : Itd). (slot_of u x).active) (sym (found_itd (parts n n) v w here (ap (λ part. part n) (sym same) ∙ there))) ∙ off
  itd_off v w u here (of_frame f) there off =
      let h = (frame_keeps transacts met parts frame (frame_place c) wire after now frame_later f.kind (as_frame f.part) f.effect n).itd n v here in
      let is : h.itd ≡ w = found_itd (now n n) h.itd w h.here there in
      by (slot_of u w).active refl h.itd is h.after
    where
      by : (b : Bool) → (slot_of u w).active ≡ b → (x : Itd) → x ≡ w → IsItdAfter v x → (slot_of u w).active ≡ false
      by true on x is a = absurd (true≢false (sym (ap (λ (y : Itd). (slot_of u y).active) is ∙ on) ∙ ap (λ s. s.active) (a.active u (ap (λ (y : Itd). (slot_of u y).active) is ∙ on)) ∙ off))
      by false is x same a = is

  pub sitd_off : (v w : Sitd) → parts n n ≡ Some (SplitIsochronous v) → BothEffect begins transacts parts c.control hand frame wire after now later frame_later → now n n ≡ Some (SplitIsochronous w)
      → v.active ≡ false → w.active ≡ false
  sitd_off v w here (of_ring (a_microframe b) nothing) there off =
      ap (λ (x : Sitd). x.active) (sym (found_sitd (parts n n) v w here (ap (λ (ps : StructureSets). ps n n) (sym b.parts_stay) ∙ there))) ∙ off
  sitd_off v w here (of_ring (a_step s) nothing) there off =
      let out : member n ≡ false = no_member (λ q head. head_no_sitd (parts n n) q v head here) (member n) refl in
      let same = ring_leaves transacts base member parts hand (walk_place c) wire after now later s.kind n k.ring s.effect (λ a on at. true≢false (sym on ∙ ap member (sym at) ∙ out)) in
      ap (λ (x : Sitd). x.active) (sym (found_sitd (parts n n) v w here (ap (λ part. part n) (sym same) ∙ there))) ∙ off
  sitd_off v w here (of_frame f) there off =
      frame_off met parts frame (frame_place c) (as_frame f.part) n v here off transacts wire after now frame_later f.kind f.effect w there
