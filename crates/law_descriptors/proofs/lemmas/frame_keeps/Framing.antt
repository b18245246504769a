-- Each event of the walk of the frames keeps parts.
use Rattle.std.proofs.Common.{◌≡◌, ℕ, ◌+◌, ◌<◌, ◌≤◌, true, List, Option, Some, None, ap, refl, sym, subst, ◌∙◌, arith}
use Rattle.usb_base.specs.declared.packets.Ask.{Ask}
use Rattle.usb_base.specs.declared.packets.Reply.{Reply}
use Rattle.mem_bytes.specs.Bytes.{place}
use Rattle.qh_qtd.specs.declared.queue_head.Qh.{Qh}
use Rattle.itd_sitd.specs.declared.sitd.Sitd.{Sitd}
use Rattle.hc_copy.specs.Overlay.{advanced}
use Rattle.hc_copy.specs.WriteBack.{moved_by as queue_moved_by}
use Rattle.hc_iso.specs.declared.held.SplitOutcome.{SplitOutcome}
use Rattle.hc_iso.specs.Sitd.{sitd_place, missed_copy}
use Rattle.hc_iso.specs.WriteBack.{itd_pages, slot_place, sitd_pages, sitd_received, moved_by}
use Rattle.async_walk.specs.declared.state.WalkStep.{WalkStep}
use Rattle.periodic_walk.specs.Place.{FramePlace}
use Rattle.law_structures.specs.lent_structures.Structures.{QueueHead, Buffer, SplitIsochronous, HoldsBuffer, StructureSets, put}
use Rattle.law_structures.specs.lent_structures.WriteBack.{received_parts}
use Rattle.law_structures.specs.lent_structures.Sound.{IsSoundQueue}
use Rattle.law_structures.proofs.lemmas.lent_structures.Altering.{found_queue}
use Rattle.law_ring.specs.Hand.{Copy, Hand, Copied}
use Rattle.law_ring.specs.Effects.{received_into, Takes}
use Rattle.law_frames.specs.Met.{Kind, AQueue, ASitd, IsBuffered, IsMetQueue, IsMetSitd}
use Rattle.law_frames.specs.FrameHand.{settled_in, ItdCopy, SitdCopy, FrameHand, OfQueue, OfItd, OfSitd}
use Rattle.law_frames.specs.Frame.{IsQueueSettled, IsCopiedQueue, IsCopiedItd, IsMoved, IsTurned, IsCopiedSitd, IsInFrame, IsFrame}
use Rattle.law_frames.specs.FrameEffects.{itd_back, sitd_back, TakesOne, WritesQueue, WritesItd, IsWrittenFrom, made, missed, WritesSitd, WritesOne, of_queue, of_itd, of_sitd}
use Rattle.law_frames.specs.FrameEffects.FrameEffect.{fetches, passes, ends, takes, makes, writes}
use Rattle.law_frames.specs.Walks.{HappenInTurn, none as over, first}
use Rattle.law_frames.proofs.QueueBacks.{hand_is_settled}
use Rattle.law_descriptors.specs.frame_keeps.Kept.{IsSitdAfter, KeepsParts, HasBytesLeft}
use Rattle.law_descriptors.specs.frame_keeps.Laws.{FrameKeeps, WalkKeeps}
use Rattle.law_descriptors.proofs.lemmas.frame_keeps.Keeping.{head_keeps, found_sitd, parts_itself, parts_both, parts_put}
use Rattle.law_descriptors.proofs.lemmas.frame_keeps.Backs.{advanced_bare, marked_bare, marked_current, published, back_keeps, itd_after_back, itd_back_keeps, sitd_back_keeps, made_after, missed_after}

abbrev as_copy : Hand → Copy → Copy
as_copy (Copied c) other = c
as_copy _ other = other

same_copy : (c d : Copy) → Copied c ≡ Copied d → c ≡ d
same_copy c d e = ap (λ (h : Hand). as_copy h c) e

module _ (met : ℕ → Option Kind) (parts : StructureSets) (hand : FrameHand) (p : FramePlace) (k : IsFrame met parts hand p) where
  in_queue : (c : Copy) (count : ℕ) → hand ≡ OfQueue c count → IsCopiedQueue met parts c
  in_queue c count is = subst (IsInFrame met parts p.walk.got p.walk.reply) is k.walk.in_hand

  in_itd : (c : ItdCopy) → hand ≡ OfItd c → IsCopiedItd met parts p.walk.got c
  in_itd c is = subst (IsInFrame met parts p.walk.got p.walk.reply) is k.walk.in_hand

  in_sitd : (c : SitdCopy) → hand ≡ OfSitd c → IsCopiedSitd met parts p.walk.reply c
  in_sitd c is = subst (IsInFrame met parts p.walk.got p.walk.reply) is k.walk.in_hand

  -- ---- a queue head (4.10)

  sound : (c : Copy) → IsCopiedQueue met parts c → IsSoundQueue (parts c.at) c.queue
  sound c copied =
      let m : IsMetQueue met c.at (parts c.at) = k.members c.at AQueue copied.on in
      subst (IsSoundQueue (parts c.at)) (found_queue (parts c.at c.at) m.part_is.queue c.queue m.part_is.here copied.here) m.part_is.sound

  took : (now : StructureSets) (later : FrameHand) → TakesOne parts hand now later → KeepsParts parts now
  took now later r =
      let t : Takes parts (Copied r.copy) now (Copied r.new) = r.takes in
      let new : Qh = advanced t.copy.queue t.element t.qtd in
      let here : parts t.copy.at t.copy.at ≡ Some (QueueHead t.copy.queue) =
      subst (λ (c : Copy). parts c.at c.at ≡ Some (QueueHead c.queue)) (same_copy r.copy t.copy t.in_hand) (in_queue r.copy r.made r.in_hand).here in
      subst (KeepsParts parts) (sym t.now_is)
      (parts_put parts t.copy.at t.copy.at (QueueHead new) (head_keeps (parts t.copy.at) t.copy.at t.copy.queue new here (advanced_bare t.copy.queue t.element t.qtd)))

  wrote_queue : (now : StructureSets) (later : FrameHand) → WritesQueue parts p.walk hand now later → KeepsParts parts now
  wrote_queue now later r =
      let both : IsCopiedQueue met parts r.copy × IsQueueSettled r.copy.queue p.walk.reply r.settled = hand_is_settled met parts p.walk hand r.copy r.settled r.made k.walk.in_hand r.from in
      subst (KeepsParts parts) (sym r.now_is)
      (back_keeps parts r.copy.at r.copy.at r.copy.queue (settled_in r.copy r.settled) (queue_moved_by r.settled.outcome) r.settled.got
      (received_into (parts r.copy.at) r.copy.queue r.element r.settled.got) r.element (marked_bare r.copy r.settled (queue_moved_by r.settled.outcome))
      (published (parts r.copy.at) r.copy.queue r.element (sound r.copy both.0) both.1.came_to.works r.here) both.0.here (ap (parts r.copy.at) (marked_current r.copy r.settled) ∙ r.here) r.received_is)

  -- ---- an iTD (4.7.1)

  wrote_itd : (now : StructureSets) (later : FrameHand) → WritesItd parts p.walk hand now later → KeepsParts parts now
  wrote_itd now later r =
      let c : ItdCopy = r.copy in
      subst (KeepsParts parts) (sym r.now_is)
      (itd_back_keeps parts c.held.at (itd_pages c.held.itd) (slot_place c.held.slot) p.walk.got r.into c.itd (itd_back c) (in_itd c r.in_hand).here (itd_after_back c.itd c.held) r.received_is)

  -- ---- a siTD (4.12.3)

  -- the bytes that are left lie in its two pages
  bytes_within : (c : SitdCopy) → IsCopiedSitd met parts p.walk.reply c → c.sitd.active ≡ true → 0 < c.sitd.total → sitd_place c.sitd + c.sitd.total ≤ 8192
  bytes_within c copied on some =
      let m : IsMetSitd met c.held.at (parts c.held.at) = k.members c.held.at ASitd copied.on in
      let bytes : HasBytesLeft (parts c.held.at) c.sitd =
      subst (HasBytesLeft (parts c.held.at)) (found_sitd (parts c.held.at c.held.at) m.sitd c.sitd m.here copied.here) m.bytes in
      let b : IsBuffered (parts c.held.at) (sitd_pages c.sitd) (sitd_place c.sitd) c.sitd.total = bytes on some in
      let h : HoldsBuffer p.memory (place (sitd_pages c.sitd) b.start) (sitd_pages c.sitd) b.start b.bytes =
      k.tells.each c.held.at (place (sitd_pages c.sitd) b.start) (Buffer (sitd_pages c.sitd) b.start b.bytes) b.here in
      let inside = b.within in
      let room = h.within in
      omega (arith, inside, room)

  sitd_made : (c : SitdCopy) (o : SplitOutcome) → IsCopiedSitd met parts p.walk.reply c → c.held.settled ≡ Some o → IsSitdAfter c.sitd (sitd_back c (moved_by o))
  sitd_made c o copied settled =
      let is : IsMoved c p.walk.reply o = subst (IsTurned c p.walk.reply) settled copied.turn in
      made_after c p.walk.reply o is (λ some. bytes_within c copied is.works some)

  sitd_missed : (c : SitdCopy) (n : ℕ) → IsCopiedSitd met parts p.walk.reply c → c.held.settled ≡ None → IsSitdAfter c.sitd (sitd_back (record c { held = missed_copy c.held }) n)
  sitd_missed c n copied unsettled = missed_after c p.walk.reply n (subst (IsTurned c p.walk.reply) unsettled copied.turn)

  record IsBack (c back : SitdCopy) (o : SplitOutcome) : Type 0 where
    at : back.held.at ≡ c.held.at
    after : IsSitdAfter c.sitd (sitd_back back (moved_by o))

  sitd_after_back : (c back : SitdCopy) (o : SplitOutcome) → IsCopiedSitd met parts p.walk.reply c → back.held.settled ≡ Some o → IsWrittenFrom p.walk c back → IsBack c back o
  sitd_after_back c back o copied settled (made is) = record {
    at = ap (λ (b : SitdCopy). b.held.at) is;
    after = subst (λ (b : SitdCopy). IsSitdAfter c.sitd (sitd_back b (moved_by o))) (sym is) (sitd_made c o copied (ap (λ (b : SitdCopy). b.held.settled) (sym is) ∙ settled));
  }
  sitd_after_back c back o copied settled (missed unsettled turn is) = record {
    at = ap (λ (b : SitdCopy). b.held.at) is;
    after = subst (λ (b : SitdCopy). IsSitdAfter c.sitd (sitd_back b (moved_by o))) (sym is) (sitd_missed c (moved_by o) copied unsettled);
  }

  wrote_sitd : (now : StructureSets) (later : FrameHand) → WritesSitd parts p.walk hand now later → KeepsParts parts now
  wrote_sitd now later r =
      let v : Sitd = r.back.held.sitd in
      let got : List ℕ = sitd_received v.dir_in r.outcome p.walk.reply in
      let new : Sitd = sitd_back r.back (moved_by r.outcome) in
      let copied : IsCopiedSitd met parts p.walk.reply r.copy = in_sitd r.copy r.in_hand in
      let is : IsBack r.copy r.back r.outcome = sitd_after_back r.copy r.back r.outcome copied r.settled r.written in
      subst (KeepsParts parts) (sym r.now_is)
      (subst (λ (n : ℕ). KeepsParts parts (put (received_parts parts n got r.into) n n (SplitIsochronous new))) (sym is.at)
      (sitd_back_keeps parts r.copy.held.at (sitd_pages v) (sitd_place v) got r.into r.copy.sitd new copied.here is.after r.received_is))

  wrote : (now : StructureSets) (later : FrameHand) → WritesOne parts p.walk hand now later → KeepsParts parts now
  wrote now later (of_queue r) = wrote_queue now later r
  wrote now later (of_itd r) = wrote_itd now later r
  wrote now later (of_sitd r) = wrote_sitd now later r

-- ---- any event

pub frame_keeps : {W : Type 0} (transacts : W → Ask → List ℕ → Reply → W → Type 0) → FrameKeeps transacts
frame_keeps transacts met parts hand p wire after now later _ k (fetches nothing r same quiet) = parts_itself parts now same
frame_keeps transacts met parts hand p wire after now later _ k (passes unsettled nothing same quiet) = parts_itself parts now same
frame_keeps transacts met parts hand p wire after now later _ k (ends none nothing same quiet) = parts_itself parts now same
frame_keeps transacts met parts hand p wire after now later _ k (makes r same) = parts_itself parts now same
frame_keeps transacts met parts hand p wire after now later _ k (takes r quiet) = took met parts hand p k now later r
frame_keeps transacts met parts hand p wire after now later _ k (writes r quiet) = wrote met parts hand p k now later r

-- ---- however many

module _ {W : Type 0} (transacts : W → Ask → List ℕ → Reply → W → Type 0) (met : ℕ → Option Kind) (new : FramePlace) (after : W) (now : StructureSets) (later : FrameHand) where
  turns_keep : (kinds : List WalkStep) (p : FramePlace) (wire : W) (parts : StructureSets) (hand : FrameHand) → IsFrame met parts hand p → HappenInTurn transacts met new after now later kinds p wire parts hand → KeepsParts parts now
  turns_keep kinds p wire parts hand k over = parts_itself parts parts refl
  turns_keep kinds p wire parts hand k (first kind rest at mid before between old held is leads h more) =
      parts_both parts h.now now (frame_keeps transacts met parts hand p wire between h.now h.later kind k h.effect) (turns_keep rest mid between h.now h.later h.frame more)

pub walk_keeps : {W : Type 0} (transacts : W → Ask → List ℕ → Reply → W → Type 0) → WalkKeeps transacts
walk_keeps transacts met parts hand wire after p new kinds k w = turns_keep transacts met new after w.now w.later kinds p wire parts hand k w.events
