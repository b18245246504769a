-- Write-backs keep parts: of a queue head and its qTD, of an iTD, and of a siTD, each after received bytes.
use Rattle.std.proofs.Common.{◌≡◌, ℕ, zero, suc, ◌+◌, ◌<◌, ◌≤◌, true, false, List, [], ◌∷◌, slice_set, Some, None, ap, refl, sym, ◌∙◌, arith}
use Rattle.std.specs.Prelude.{slice_index_or}
use Rattle.std.proofs.lemmas.Bool.{false≢true}
use Rattle.law_ring.proofs.Common.{ended_after}
use Rattle.law_frames.proofs.Common.{received_else, itd_is_no_buffer, sitd_is_no_buffer}
use Rattle.usb_base.specs.declared.packets.Reply.{Reply}
use Rattle.mem_bytes.specs.Bytes.{place}
use Rattle.qh_qtd.specs.declared.qtd.Qtd.{Qtd}
use Rattle.qh_qtd.specs.declared.queue_head.Qh.{Qh}
use Rattle.itd_sitd.specs.declared.slot.ItdSlot.{ItdSlot}
use Rattle.itd_sitd.specs.declared.itd.Itd.{Itd}
use Rattle.itd_sitd.specs.declared.sitd.Sitd.{Sitd}
use Rattle.itd_sitd.specs.Slot.{no_slot}
use Rattle.hc_copy.specs.Overlay.{pages_of, buffer_place, advanced, settled_queue, moved}
use Rattle.hc_iso.specs.declared.held.HeldItd.{HeldItd}
use Rattle.hc_iso.specs.declared.held.SplitOutcome.{SplitOutcome}
use Rattle.hc_iso.specs.Sitd.{sitd_place, moved_sitd, missed_sitd, missed_copy}
use Rattle.hc_iso.specs.WriteBack.{done_slot, moved_by}
use Rattle.law_structures.specs.lent_structures.Structures.{QueueHead, Element, Buffer, Isochronous, SplitIsochronous, Structures, StructureSets, put}
use Rattle.law_structures.specs.lent_structures.Changes.{relinked, overwritten}
use Rattle.law_structures.proofs.lemmas.lent_structures.Names.{names_differ, put_else}
use Rattle.law_structures.proofs.lemmas.lent_structures.Storing.{length-overwritten}
use Rattle.law_structures.specs.lent_structures.WriteBack.{Received, Nothing, Into, IsReceived, received_parts, qtd_after, parts_back}
use Rattle.law_structures.proofs.lemmas.lent_structures.WrittenBack.{head_is_no_buffer, element_is_no_buffer, element_is_no_head}
use Rattle.law_structures.specs.lent_structures.Sound.{IsWorking, IsSoundQueue}
use Rattle.law_structures.proofs.lemmas.lent_structures.Altering.{found_element}
use Rattle.law_ring.specs.Hand.{Copy, Settlement, settled_queue_of}
use Rattle.law_controller.specs.controlled_streams.Kept.{bare}
use Rattle.law_frames.specs.FrameHand.{QueueSettlement, settled_in, SitdCopy}
use Rattle.law_frames.specs.Frame.{IsMoved, IsTurned}
use Rattle.law_frames.specs.FrameEffects.{AreReceivedAt, sitd_back}
use Rattle.law_frames.proofs.PartTurning.{its_place_moves_on}
use Rattle.law_descriptors.specs.frame_keeps.Kept.{stateless, IsItdAfter, IsLeft, IsSitdAfter, KeepsParts}
use Rattle.law_descriptors.proofs.lemmas.frame_keeps.Keeping.{head_keeps, element_keeps, buffer_keeps, itd_keeps, sitd_keeps, parts_itself, parts_both, parts_put}

-- ---- received bytes

received_keeps : (parts : StructureSets) (n : ℕ) (pages : List ℕ) (from : ℕ) (got : List ℕ) (r : Received) → AreReceivedAt (parts n) pages from got r → KeepsParts parts (received_parts parts n got r)
received_keeps parts n pages from got Nothing none = parts_itself parts parts refl
received_keeps parts n pages from got (Into into k bs j) is =
    parts_put parts n (place into k) (Buffer into k (overwritten bs j got)) (buffer_keeps (parts n) (place into k) into k bs (overwritten bs j got) is.buffer (length-overwritten bs j got is.fits))

-- those of a queue head are received so too
received_at : (part : Structures) (c : Qh) (got : List ℕ) (r : Received) → IsReceived part c got r → AreReceivedAt part (pages_of c) (buffer_place c) got r
received_at part c got Nothing none = none
received_at part c got (Into pages k bs j) is = record { pages_are = is.pages_are; buffer = is.buffer; place_is = is.place_is; fits = is.fits; bytes = is.bytes }

-- ---- a queue head and its qTD

pub advanced_bare : (q : Qh) (a : ℕ) (t : Qtd) → bare (advanced q a t) ≡ bare q
unfolding advanced
advanced_bare q a t = refl

pub written_bare : (c : Copy) (z : Settlement) (n : ℕ) → bare (relinked c.queue (moved (settled_queue_of c z) n)) ≡ bare c.queue
unfolding moved settled_queue
written_bare c z n = refl

pub settled_current : (c : Copy) (z : Settlement) → (settled_queue_of c z).current ≡ c.queue.current
unfolding settled_queue
settled_current c z = refl

-- in the frames, also where its transaction is split
pub marked_bare : (c : Copy) (z : QueueSettlement) (n : ℕ) → bare (relinked c.queue (moved (settled_in c z) n)) ≡ bare c.queue
unfolding moved settled_queue
marked_bare c z n = refl

pub marked_current : (c : Copy) (z : QueueSettlement) → (settled_in c z).current ≡ c.queue.current
unfolding settled_queue
marked_current c z = refl

-- the qTD that is worked on is active
pub published : (part : Structures) (q : Qh) (t : Qtd) → IsSoundQueue part q → q.token.active ≡ true → part q.current ≡ Some (Element t) → t.token.active ≡ true
published part q t sound on here =
    let w : IsWorking part q = sound.work on in
    ap (λ (x : Qtd). x.token.active) (found_element (part q.current) t w.element here w.here) ∙ w.published

pub back_keeps : (parts : StructureSets) (n a : ℕ) (q c : Qh) (count : ℕ) (got : List ℕ) (r : Received) (t : Qtd) → bare (relinked q (moved c count)) ≡ bare q → t.token.active ≡ true → parts n a ≡ Some (QueueHead q)
    → parts n c.current ≡ Some (Element t) → IsReceived (parts n) c got r → KeepsParts parts (parts_back parts n a q c count got r t)
back_keeps parts n a q c count got r t same on head element received =
    let x : Qh = moved c count in
    let at : AreReceivedAt (parts n) (pages_of c) (buffer_place c) got r = received_at (parts n) c got r received in
    let one : StructureSets = received_parts parts n got r in
    let two : StructureSets = put one n a (QueueHead (relinked q x)) in
    let head_there : one n a ≡ Some (QueueHead q) = received_else parts n (pages_of c) (buffer_place c) got r a (QueueHead q) at head (head_is_no_buffer q) in
    let element_there : one n c.current ≡ Some (Element t) = received_else parts n (pages_of c) (buffer_place c) got r c.current (Element t) at element (element_is_no_buffer t) in
    let element_two : two n c.current ≡ Some (Element t) =
    put_else one n a (QueueHead (relinked q x)) c.current (names_differ (parts n) c.current a (Element t) (QueueHead q) element head (element_is_no_head t q)) ∙ element_there in
    parts_both parts one (parts_back parts n a q c count got r t) (received_keeps parts n (pages_of c) (buffer_place c) got r at)
    (parts_both one two (parts_back parts n a q c count got r t) (parts_put one n a (QueueHead (relinked q x)) (head_keeps (one n) a q (relinked q x) head_there same))
    (parts_put two n c.current (Element (qtd_after x t)) (element_keeps (two n) c.current t (qtd_after x t) element_two on (ended_after x t x.token.active refl))))

-- ---- an iTD (4.7.1)

-- one that is active is as it was, where an inactive one is set
one_slot : (xs : List ItdSlot) (k u : ℕ) (s : ItdSlot) → s.active ≡ false → (slice_index_or (slice_set xs k s) u no_slot).active ≡ true → slice_index_or (slice_set xs k s) u no_slot ≡ slice_index_or xs u no_slot
one_slot [] zero u s off on = refl
one_slot [] (suc k) u s off on = refl
one_slot (x ∷ xs) zero zero s off on = absurd (false≢true (sym off ∙ on))
one_slot (x ∷ xs) zero (suc u) s off on = refl
one_slot (x ∷ xs) (suc k) zero s off on = refl
one_slot (x ∷ xs) (suc k) (suc u) s off on = one_slot xs k u s off on

done_off : (h : HeldItd) → (done_slot h).active ≡ false
unfolding done_slot
done_off h = refl

pub itd_after_back : (v : Itd) (h : HeldItd) → IsItdAfter v (record v { slots = slice_set v.slots h.number (done_slot h) })
itd_after_back v h = record { same = refl; active = λ u on. one_slot v.slots h.number u (done_slot h) (done_off h) on }

pub itd_back_keeps : (parts : StructureSets) (n : ℕ) (pages : List ℕ) (from : ℕ) (got : List ℕ) (r : Received) (v w : Itd) → parts n n ≡ Some (Isochronous v) → IsItdAfter v w → AreReceivedAt (parts n) pages from got r
    → KeepsParts parts (put (received_parts parts n got r) n n (Isochronous w))
itd_back_keeps parts n pages from got r v w here after received =
    let one : StructureSets = received_parts parts n got r in
    let there : one n n ≡ Some (Isochronous v) = received_else parts n pages from got r n (Isochronous v) received here (itd_is_no_buffer v) in
    parts_both parts one (put one n n (Isochronous w)) (received_keeps parts n pages from got r received) (parts_put one n n (Isochronous w) (itd_keeps (one n) n v w there after))

-- ---- a siTD (4.12.3)

pub sitd_back_keeps : (parts : StructureSets) (n : ℕ) (pages : List ℕ) (from : ℕ) (got : List ℕ) (r : Received) (v w : Sitd) → parts n n ≡ Some (SplitIsochronous v) → IsSitdAfter v w → AreReceivedAt (parts n) pages from got r
    → KeepsParts parts (put (received_parts parts n got r) n n (SplitIsochronous w))
sitd_back_keeps parts n pages from got r v w here after received =
    let one : StructureSets = received_parts parts n got r in
    let there : one n n ≡ Some (SplitIsochronous v) = received_else parts n pages from got r n (SplitIsochronous v) received here (sitd_is_no_buffer v) in
    parts_both parts one (put one n n (SplitIsochronous w)) (received_keeps parts n pages from got r received) (parts_put one n n (SplitIsochronous w) (sitd_keeps (one n) n v w there after))

-- its transaction was made, where the bytes that were left lie in two pages
moved_stateless : (c : SitdCopy) (n : ℕ) → stateless (sitd_back c n) ≡ stateless (record c.held.sitd { link = c.sitd.link })
unfolding moved_sitd
moved_stateless c n = refl

moved_total : (c : SitdCopy) (n : ℕ) → (sitd_back c n).total ≡ c.held.sitd.total
unfolding moved_sitd
moved_total c n = refl

moved_left : (c : SitdCopy) (reply : Reply) (o : SplitOutcome) → IsMoved c reply o → (0 < c.sitd.total → sitd_place c.sitd + c.sitd.total ≤ 8192) → 0 < (sitd_back c (moved_by o)).total → IsLeft c.sitd (sitd_back c (moved_by o))
moved_left c reply o is within some =
    let n : ℕ = moved_by o in
    let v : Sitd = c.sitd in
    let h : Sitd = c.held.sitd in
    let place : sitd_place h ≡ sitd_place v = sym (ap sitd_place is.same) in
    let left : h.total + n ≡ v.total = is.left in
    let total : (sitd_back c n).total ≡ h.total = moved_total c n in
    let room : sitd_place v + v.total ≤ 8192 = within (omega (arith, left, total, some)) in
    let next : sitd_place (moved_sitd n h) ≡ sitd_place h + n = its_place_moves_on n h (omega (arith, place, left, total, some, room)) in
    record { active = is.works; from = omega (arith, next, place); within = omega (arith, next, place, left, total) }

pub made_after : (c : SitdCopy) (reply : Reply) (o : SplitOutcome) → IsMoved c reply o → (0 < c.sitd.total → sitd_place c.sitd + c.sitd.total ≤ 8192) → IsSitdAfter c.sitd (sitd_back c (moved_by o))
made_after c reply o is within = record {
  same = moved_stateless c (moved_by o) ∙ sym (ap (λ (z : Sitd). stateless (record z { link = c.sitd.link })) is.same);
  left = λ on some. moved_left c reply o is within some;
}

-- one of its microframes was missed: it isn't active any more
missed_stateless : (c : SitdCopy) (n : ℕ) → stateless (sitd_back (record c { held = missed_copy c.held }) n) ≡ stateless (record c.held.sitd { link = c.sitd.link })
unfolding moved_sitd missed_sitd
missed_stateless c n = refl

missed_off : (c : SitdCopy) (n : ℕ) → (sitd_back (record c { held = missed_copy c.held }) n).active ≡ false
unfolding moved_sitd missed_sitd
missed_off c n = refl

pub missed_after : (c : SitdCopy) (reply : Reply) (n : ℕ) → IsTurned c reply None → IsSitdAfter c.sitd (sitd_back (record c { held = missed_copy c.held }) n)
missed_after c reply n is = record {
  same = missed_stateless c n ∙ ap stateless is;
  left = λ on some. absurd (false≢true (sym (missed_off c n) ∙ on));
}
