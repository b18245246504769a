-- What an event of the walk of the frames leaves of each structure: its kind, how far it reaches, and of a descriptor that its bytes lie in its buffer.
use Rattle.std.proofs.Common.{◌≡◌, ◌≢◌, ℕ, ◌+◌, ◌<◌, Bool, true, false, List, length, Option, Some, ap, refl, sym, subst, ◌∙◌, ⊎_elim, arith}
use Rattle.std.proofs.lemmas.Bool.{cases_eq, true≢false}
use Rattle.std.proofs.lemmas.Option.{same_Some}
use Rattle.std.proofs.lemmas.List.{get_or-set_same}
use Rattle.law_frames.proofs.Common.{slot_same}
use Rattle.law_driver_ring.proofs.Common.{extents_same, extents_both, extents_put}
use Rattle.law_ring.proofs.Common.{received_beside}
use Rattle.usb_base.specs.declared.packets.Ask.{Ask}
use Rattle.usb_base.specs.declared.packets.Reply.{Reply}
use Rattle.mem_bytes.specs.Bytes.{place}
use Rattle.qh_qtd.specs.declared.qtd.Qtd.{Qtd}
use Rattle.qh_qtd.specs.declared.queue_head.Qh.{Qh}
use Rattle.itd_sitd.specs.declared.slot.ItdSlot.{ItdSlot}
use Rattle.itd_sitd.specs.declared.itd.Itd.{Itd}
use Rattle.itd_sitd.specs.declared.sitd.Sitd.{Sitd}
use Rattle.itd_sitd.specs.Slot.{no_slot}
use Rattle.itd_sitd.specs.Itd.{slot_of}
use Rattle.hc_copy.specs.Overlay.{advanced, settled_queue, moved}
use Rattle.hc_copy.specs.WriteBack.{moved_by as queue_moved_by}
use Rattle.hc_iso.specs.declared.held.SplitOutcome.{SplitOutcome}
use Rattle.hc_iso.specs.Sitd.{sitd_place, moved_sitd, missed_sitd, missed_copy}
use Rattle.hc_iso.specs.WriteBack.{itd_pages, slot_place, done_slot, sitd_pages, sitd_received, moved_by}
use Rattle.periodic_walk.specs.Walk.{Walk}
use Rattle.periodic_walk.specs.Place.{FramePlace}
use Rattle.law_structures.specs.lent_structures.Structures.{Structure, QueueHead, Buffer, Table, Isochronous, SplitIsochronous, Structures, StructureSets, put, Tells}
use Rattle.law_structures.specs.lent_structures.Changes.{relinked}
use Rattle.law_structures.proofs.lemmas.lent_structures.Names.{put_same, put_beside}
use Rattle.law_structures.specs.lent_structures.WriteBack.{Received, Nothing as Nowhere, Into, received_parts, qtd_after, parts_back}
use Rattle.law_ring.specs.Hand.{Copy, Hand as RingHand, Copied}
use Rattle.law_ring.specs.Effects.{received_into, Takes}
use Rattle.law_driver_ring.specs.Inventory.{SameSorts}
use Rattle.law_driver_ring.proofs.Sorts.{same_put, same_both, same_parts, back_same}
use Rattle.law_driver_ring.specs.Extents.{KeepExtents}
use Rattle.law_driver_ring.proofs.Extending.{head_put, element_put}
use Rattle.law_frames.specs.Met.{Kind, IsBuffered}
use Rattle.law_frames.specs.FrameHand.{QueueSettlement, settled_in, ItdCopy, SitdCopy, FrameHand}
use Rattle.law_frames.specs.Frame.{IsQueueSettled, IsCopiedQueue, IsCopiedItd, IsCopiedSitd, IsMoved, IsTurned, IsInFrame, IsFrame}
use Rattle.law_frames.specs.FrameEffects.{AreReceivedAt, itd_back, itd_parts, sitd_back, sitd_parts, IsWrittenFrom, made, missed, WritesQueue, WritesItd, WritesSitd, WritesOne, TakesOne}
use Rattle.law_frames.specs.FrameEffects.WritesOne.{of_queue, of_itd, of_sitd}
use Rattle.law_frames.specs.FrameEffects.FrameEffect.{fetches, passes, ends, takes, makes, writes}
use Rattle.law_frames.proofs.QueueBacks.{hand_is_settled}
use Rattle.law_frames.proofs.PartTurning.{its_place_moves_on}
use Rattle.law_descriptors.specs.Described.{HasItd, HasSitd, HasDescriptor}
use Rattle.law_descriptors.specs.Both.{Keeps}
use Rattle.law_descriptors.specs.PartLaws.{FramesKeep}
use Rattle.law_descriptors.proofs.Events.{buffered_still, Fit, fit_received, received_sorts, received_extents, received_there, descriptors_same, descriptors_beside, queue_keeps, back_beside}

keeps_same : (parts now : StructureSets) → now ≡ parts → Keeps parts now
keeps_same parts now same = record { sorts = same_parts parts now same; extents = extents_same parts now same; descriptors = descriptors_same parts now same }

-- ---- a queue head

abbrev copy_or : Copy → RingHand → Copy
copy_or c (Copied d) = d
copy_or c _ = c

one_copy : (c d : Copy) → Copied c ≡ Copied d → c ≡ d
one_copy c d e = ap (copy_or c) e

takes_keep : (met : ℕ → Option Kind) (parts : StructureSets) (got : List ℕ) (reply : Reply) (hand : FrameHand) (now : StructureSets) (later : FrameHand) → IsInFrame met parts got reply hand → TakesOne parts hand now later → Keeps parts now
takes_keep met parts got reply hand now later k t =
    let x : Takes parts (Copied t.copy) now (Copied t.new) = t.takes in
    let c : IsCopiedQueue met parts t.copy = subst (IsInFrame met parts got reply) t.in_hand k in
    let same : t.copy ≡ x.copy = one_copy t.copy x.copy x.in_hand in
    let here : parts x.copy.at x.copy.at ≡ Some (QueueHead x.copy.queue) = subst (λ (y : Copy). parts y.at y.at ≡ Some (QueueHead y.queue)) same c.here in
    let new : Qh = advanced x.copy.queue x.element x.qtd in
    subst (Keeps parts) (sym x.now_is)
    (record {
      sorts = same_put parts x.copy.at x.copy.at (QueueHead x.copy.queue) (QueueHead new) here refl;
      extents = head_put parts x.copy.at x.copy.at new;
      descriptors = queue_keeps parts (put parts x.copy.at x.copy.at (QueueHead new)) x.copy.at x.copy.queue (λ i differs. put_beside parts x.copy.at x.copy.at (QueueHead new) i differs) here;
    })

back_extents : (parts : StructureSets) (n a : ℕ) (q c : Qh) (count : ℕ) (got : List ℕ) (r : Received) (t : Qtd) → Fit (parts n) got r → KeepExtents parts (parts_back parts n a q c count got r t)
back_extents parts n a q c count got r t fit =
    let one = received_parts parts n got r in
    let two = put one n a (QueueHead (relinked q (moved c count))) in
    extents_both parts one (parts_back parts n a q c count got r t) (received_extents parts n got r fit)
    (extents_both one two (parts_back parts n a q c count got r t) (head_put one n a (relinked q (moved c count))) (element_put two n c.current (qtd_after (moved c count) t)))

settled_current : (c : Copy) (s : QueueSettlement) → (settled_in c s).current ≡ c.queue.current
unfolding settled_queue
settled_current c s = refl

queue_written_keeps : (met : ℕ → Option Kind) (parts : StructureSets) (walk : Walk) (hand : FrameHand) (now : StructureSets) (later : FrameHand) → IsInFrame met parts walk.got walk.reply hand → WritesQueue parts walk hand now later → Keeps parts now
queue_written_keeps met parts walk hand now later k w =
    let c : IsCopiedQueue met parts w.copy × IsQueueSettled w.copy.queue walk.reply w.settled = hand_is_settled met parts walk hand w.copy w.settled w.made k w.from in
    let q : Qh = settled_in w.copy w.settled in
    let n : ℕ = queue_moved_by w.settled.outcome in
    let into : Received = received_into (parts w.copy.at) w.copy.queue w.element w.settled.got in
    subst (Keeps parts) (sym w.now_is)
    (record {
      sorts = back_same parts w.copy.at w.copy.at w.copy.queue q n w.settled.got into w.element c.0.here (ap (parts w.copy.at) (settled_current w.copy w.settled) ∙ w.here) w.received_is;
      extents = back_extents parts w.copy.at w.copy.at w.copy.queue q n w.settled.got into w.element (fit_received (parts w.copy.at) q w.settled.got into w.received_is);
      descriptors = queue_keeps parts (parts_back parts w.copy.at w.copy.at w.copy.queue q n w.settled.got into w.element) w.copy.at w.copy.queue
          (λ i differs. back_beside parts w.copy.at w.copy.at w.copy.queue q n w.settled.got into w.element i differs) c.0.here;
    })

-- ---- a descriptor is put behind received bytes

fit_at : (part : Structures) (pages : List ℕ) (from : ℕ) (got : List ℕ) (r : Received) → AreReceivedAt part pages from got r → Fit part got r
fit_at part pages from got Nowhere is = tt
fit_at part pages from got (Into into k bs j) is = (is.buffer, is.fits)

itd_is_no_buffer : (v : Itd) (pages : List ℕ) (k : ℕ) (bs : List ℕ) → Isochronous v ≡ Buffer pages k bs → ⊥
itd_is_no_buffer v pages k bs e = cc

sitd_is_no_buffer : (v : Sitd) (pages : List ℕ) (k : ℕ) (bs : List ℕ) → SplitIsochronous v ≡ Buffer pages k bs → ⊥
sitd_is_no_buffer v pages k bs e = cc

itd_is_no_table : (v : Itd) (ws : List ℕ) → Table ws ≡ Isochronous v → ⊥
itd_is_no_table v ws e = cc

sitd_is_no_table : (v : Sitd) (ws : List ℕ) → Table ws ≡ SplitIsochronous v → ⊥
sitd_is_no_table v ws e = cc

itd_is_no_sitd : (v : Itd) (w : Sitd) → Isochronous v ≡ SplitIsochronous w → ⊥
itd_is_no_sitd v w e = cc

-- the structures of `at`, once bytes were received and its descriptor was put
module _ (parts : StructureSets) (at : ℕ) (got : List ℕ) (r : Received) (fit : Fit (parts at) got r) where
  abbrev one : StructureSets
  one = received_parts parts at got r

  put_aside : (s : Structure) (k : ℕ) → k ≢ at → put one at at s k ≡ parts k
  put_aside s k differs = put_beside one at at s k differs ∙ received_beside parts at got r k differs

  itd_sorts : (v new : Itd) → parts at at ≡ Some (Isochronous v) → SameSorts parts (put one at at (Isochronous new))
  itd_sorts v new here =
      same_both parts one (put one at at (Isochronous new)) (received_sorts parts at got r fit)
      (same_put one at at (Isochronous v) (Isochronous new) (received_there parts at got r at (Isochronous v) fit (itd_is_no_buffer v) here) refl)

  itd_extents : (new : Itd) → KeepExtents parts (put one at at (Isochronous new))
  itd_extents new =
      extents_both parts one (put one at at (Isochronous new)) (received_extents parts at got r fit)
      (extents_put one at at (Isochronous new) (λ pages k bs e. itd_is_no_buffer new pages k bs (sym e)) (itd_is_no_table new))

  sitd_sorts : (v new : Sitd) → parts at at ≡ Some (SplitIsochronous v) → SameSorts parts (put one at at (SplitIsochronous new))
  sitd_sorts v new here =
      same_both parts one (put one at at (SplitIsochronous new)) (received_sorts parts at got r fit)
      (same_put one at at (SplitIsochronous v) (SplitIsochronous new) (received_there parts at got r at (SplitIsochronous v) fit (sitd_is_no_buffer v) here) refl)

  sitd_extents : (new : Sitd) → KeepExtents parts (put one at at (SplitIsochronous new))
  sitd_extents new =
      extents_both parts one (put one at at (SplitIsochronous new)) (received_extents parts at got r fit)
      (extents_put one at at (SplitIsochronous new) (λ pages k bs e. sitd_is_no_buffer new pages k bs (sym e)) (sitd_is_no_table new))

-- ---- an iTD

abbrev itd_or : Itd → Structure → Itd
itd_or v (Isochronous w) = w
itd_or v _ = v

one_itd : (v w : Itd) → Isochronous v ≡ Isochronous w → v ≡ w
one_itd v w e = ap (itd_or v) e

done_is_idle : (c : ItdCopy) → (done_slot c.held).active ≡ false
unfolding done_slot
done_is_idle c = refl

slot_done : (c : ItdCopy) → c.held.number < length c.itd.slots → (slot_of c.held.number (itd_back c)).active ≡ false
slot_done c within = ap (λ (s : ItdSlot). s.active) (get_or-set_same c.itd.slots c.held.number (done_slot c.held) no_slot within) ∙ done_is_idle c

itd_still : (parts now : StructureSets) (c : ItdCopy) → c.held.number < length c.itd.slots → SameSorts parts now → KeepExtents parts now → parts c.held.at c.held.at ≡ Some (Isochronous c.itd) → now c.held.at c.held.at ≡ Some (Isochronous (itd_back c)) → HasItd (parts c.held.at) c.held.at → HasItd (now c.held.at) c.held.at
itd_still parts now c within sorts extents was is has =
    let same : has.itd ≡ c.itd = one_itd has.itd c.itd (same_Some (Isochronous has.itd) (Isochronous c.itd) (sym has.here ∙ was)) in
    record {
      itd = itd_back c;
      here = is;
      slots = λ u small active some.
          ⊎_elim (λ (mine : u ≡ c.held.number). absurd (true≢false (sym active ∙ ap (λ (i : ℕ). (slot_of i (itd_back c)).active) mine ∙ slot_done c within)))
          (λ (differs : u ≢ c.held.number).
          let slot : slot_of u (itd_back c) ≡ slot_of u has.itd = slot_same c u differs ∙ ap (slot_of u) (sym same) in
          let before : IsBuffered (parts c.held.at) (itd_pages has.itd) (slot_place (slot_of u has.itd)) (slot_of u has.itd).length =
          has.slots u small (ap (λ (s : ItdSlot). s.active) (sym slot) ∙ active) (subst (λ (s : ItdSlot). 0 < s.length) slot some) in
          let after : IsBuffered (now c.held.at) (itd_pages has.itd) (slot_place (slot_of u has.itd)) (slot_of u has.itd).length =
          buffered_still parts now c.held.at (itd_pages has.itd) (slot_place (slot_of u has.itd)) (slot_of u has.itd).length sorts extents before in
          subst (λ (v : Itd). IsBuffered (now c.held.at) (itd_pages v) (slot_place (slot_of u (itd_back c))) (slot_of u (itd_back c)).length) same
          (subst (λ (s : ItdSlot). IsBuffered (now c.held.at) (itd_pages has.itd) (slot_place s) s.length) (sym slot) after))
          (cases_eq u c.held.number);
    }

itd_written_keeps : (met : ℕ → Option Kind) (parts : StructureSets) (hand : FrameHand) (p : FramePlace) (now : StructureSets) (later : FrameHand) → IsInFrame met parts p.walk.got p.walk.reply hand → WritesItd parts p.walk hand now later → Keeps parts now
itd_written_keeps met parts hand p now later k w =
    let c : IsCopiedItd met parts p.walk.got w.copy = subst (IsInFrame met parts p.walk.got p.walk.reply) w.in_hand k in
    let at : ℕ = w.copy.held.at in
    let fit : Fit (parts at) p.walk.got w.into = fit_at (parts at) (itd_pages w.copy.held.itd) (slot_place w.copy.held.slot) p.walk.got w.into w.received_is in
    let eight : length w.copy.itd.slots ≡ 8 = ap (λ (v : Itd). length v.slots) (sym c.same) ∙ c.held.range.eight in
    let within : w.copy.held.number < length w.copy.itd.slots = (let small = c.held.number in omega (arith, eight, small)) in
    let sorts : SameSorts parts (itd_parts parts w.copy p.walk.got w.into) = itd_sorts parts at p.walk.got w.into fit w.copy.itd (itd_back w.copy) c.here in
    let extents : KeepExtents parts (itd_parts parts w.copy p.walk.got w.into) = itd_extents parts at p.walk.got w.into fit (itd_back w.copy) in
    subst (Keeps parts) (sym w.now_is)
    (record {
      sorts = sorts;
      extents = extents;
      descriptors = descriptors_beside parts (itd_parts parts w.copy p.walk.got w.into) at (put_aside parts at p.walk.got w.into fit (Isochronous (itd_back w.copy)))
          (λ split has. there w.copy within sorts extents c.here (put_same (received_parts parts at p.walk.got w.into) at at (Isochronous (itd_back w.copy))) split has);
    })
  where
    there : (c : ItdCopy) → c.held.number < length c.itd.slots → SameSorts parts (itd_parts parts c p.walk.got w.into) → KeepExtents parts (itd_parts parts c p.walk.got w.into) → parts c.held.at c.held.at ≡ Some (Isochronous c.itd) → itd_parts parts c p.walk.got w.into c.held.at c.held.at ≡ Some (Isochronous (itd_back c)) → (split : Bool) → HasDescriptor split (parts c.held.at) c.held.at → HasDescriptor split (itd_parts parts c p.walk.got w.into c.held.at) c.held.at
    there c within sorts extents was is false has = itd_still parts (itd_parts parts c p.walk.got w.into) c within sorts extents was is has
    there c within sorts extents was is true has = absurd (itd_is_no_sitd c.itd has.sitd (same_Some (Isochronous c.itd) (SplitIsochronous has.sitd) (sym was ∙ has.here)))

-- ---- a siTD

back_is_active : (c : SitdCopy) (n : ℕ) → (sitd_back c n).active ≡ c.held.sitd.active
unfolding moved_sitd
back_is_active c n = refl

back_total : (c : SitdCopy) (n : ℕ) → (sitd_back c n).total ≡ c.held.sitd.total
unfolding moved_sitd
back_total c n = refl

back_pages : (c : SitdCopy) (n : ℕ) → sitd_pages (sitd_back c n) ≡ sitd_pages c.held.sitd
unfolding moved_sitd
back_pages c n = refl

-- a transaction moves neither its pages nor its place
moved_pages : (c : SitdCopy) (reply : Reply) (o : SplitOutcome) → IsMoved c reply o → sitd_pages c.held.sitd ≡ sitd_pages c.sitd
moved_pages c reply o k = ap sitd_pages (sym k.same)

moved_place : (c : SitdCopy) (reply : Reply) (o : SplitOutcome) → IsMoved c reply o → sitd_place c.held.sitd ≡ sitd_place c.sitd
moved_place c reply o k = ap sitd_place (sym k.same)

abbrev sitd_or : Sitd → Structure → Sitd
sitd_or v (SplitIsochronous w) = w
sitd_or v _ = v

-- the bytes that are left lie behind those that were moved, in two pages
rest_buffered : (p : FramePlace) (parts : StructureSets) (n : ℕ) (v : Sitd) (moved left total : ℕ) → Tells p.memory parts → left + moved ≡ total → 0 < left → IsBuffered (parts n) (sitd_pages v) (sitd_place v) total
    → IsBuffered (parts n) (sitd_pages v) (sitd_place v + moved) left × (sitd_place v + moved < 8192)
rest_buffered p parts n v moved left total told sum some is =
    let holds = told.each n (place (sitd_pages v) is.start) (Buffer (sitd_pages v) is.start is.bytes) is.here in
    let inside = holds.within in
    let within = is.within in
    let after = is.after in (
      record { start = is.start; bytes = is.bytes; here = is.here; after = omega (arith, after); within = omega (arith, within, sum) },
      omega (arith, inside, within, sum, some),
    )

sitd_still : (p : FramePlace) (parts now : StructureSets) (c : SitdCopy) (o : SplitOutcome) → Tells p.memory parts → SameSorts parts now → KeepExtents parts now → (c.held.sitd.active ≡ true → IsMoved c p.walk.reply o) → parts c.held.at c.held.at ≡ Some (SplitIsochronous c.sitd) → now c.held.at c.held.at ≡ Some (SplitIsochronous (sitd_back c (moved_by o))) → HasSitd (parts c.held.at) c.held.at → HasSitd (now c.held.at) c.held.at
sitd_still p parts now c o told sorts extents moves was is has = record {
  sitd = sitd_back c (moved_by o);
  here = is;
  bytes = λ active some. its_bytes (moves (sym (back_is_active c (moved_by o)) ∙ active)) (subst (λ (x : ℕ). 0 < x) (back_total c (moved_by o)) some);
}
  where
    same : has.sitd ≡ c.sitd
    same = ap (sitd_or c.sitd) (same_Some (SplitIsochronous has.sitd) (SplitIsochronous c.sitd) (sym has.here ∙ was))

    its_bytes : IsMoved c p.walk.reply o → 0 < c.held.sitd.total → IsBuffered (now c.held.at) (sitd_pages (sitd_back c (moved_by o))) (sitd_place (sitd_back c (moved_by o))) (sitd_back c (moved_by o)).total
    its_bytes k more =
        let n : ℕ = moved_by o in
        let left = k.left in
        let all : 0 < c.sitd.total = omega (arith, left, more) in
        let before : IsBuffered (parts c.held.at) (sitd_pages c.sitd) (sitd_place c.sitd) c.sitd.total =
        subst (λ (v : Sitd). IsBuffered (parts c.held.at) (sitd_pages v) (sitd_place v) v.total) same
        (has.bytes (ap (λ (v : Sitd). v.active) same ∙ k.works) (subst (λ (v : Sitd). 0 < v.total) (sym same) all)) in
        let rest = rest_buffered p parts c.held.at c.sitd n c.held.sitd.total c.sitd.total told left more before in
        let below : sitd_place c.held.sitd + n < 8192 = subst (λ (x : ℕ). x + n < 8192) (sym (moved_place c p.walk.reply o k)) rest.1 in
        let at : sitd_place (sitd_back c n) ≡ sitd_place c.sitd + n = its_place_moves_on n c.held.sitd below ∙ ap (λ (x : ℕ). x + n) (moved_place c p.walk.reply o k) in
        let after : IsBuffered (now c.held.at) (sitd_pages c.sitd) (sitd_place c.sitd + n) c.held.sitd.total =
        buffered_still parts now c.held.at (sitd_pages c.sitd) (sitd_place c.sitd + n) c.held.sitd.total sorts extents rest.0 in
        subst (λ (pages : List ℕ). IsBuffered (now c.held.at) pages (sitd_place (sitd_back c n)) (sitd_back c n).total) (sym (back_pages c n ∙ moved_pages c p.walk.reply o k))
        (subst (λ (x : ℕ). IsBuffered (now c.held.at) (sitd_pages c.sitd) x (sitd_back c n).total) (sym at)
        (subst (λ (x : ℕ). IsBuffered (now c.held.at) (sitd_pages c.sitd) (sitd_place c.sitd + n) x) (sym (back_total c n)) after))

-- where a copy that is still active is one whose transaction was made
sitd_put_keeps : (p : FramePlace) (parts : StructureSets) (c : SitdCopy) (o : SplitOutcome) (got : List ℕ) (into : Received) → Tells p.memory parts → (c.held.sitd.active ≡ true → IsMoved c p.walk.reply o) → parts c.held.at c.held.at ≡ Some (SplitIsochronous c.sitd) → Fit (parts c.held.at) got into → Keeps parts (sitd_parts parts c (moved_by o) got into)
sitd_put_keeps p parts c o got into told moves was fit = record {
  sorts = sorts;
  extents = extents;
  descriptors = descriptors_beside parts (sitd_parts parts c (moved_by o) got into) c.held.at (put_aside parts c.held.at got into fit (SplitIsochronous (sitd_back c (moved_by o)))) there;
}
  where
    sorts : SameSorts parts (sitd_parts parts c (moved_by o) got into)
    sorts = sitd_sorts parts c.held.at got into fit c.sitd (sitd_back c (moved_by o)) was

    extents : KeepExtents parts (sitd_parts parts c (moved_by o) got into)
    extents = sitd_extents parts c.held.at got into fit (sitd_back c (moved_by o))

    there : (split : Bool) → HasDescriptor split (parts c.held.at) c.held.at → HasDescriptor split (sitd_parts parts c (moved_by o) got into c.held.at) c.held.at
    there true has =
        sitd_still p parts (sitd_parts parts c (moved_by o) got into) c o told sorts extents moves was
        (put_same (received_parts parts c.held.at got into) c.held.at c.held.at (SplitIsochronous (sitd_back c (moved_by o)))) has
    there false has = absurd (itd_is_no_sitd has.itd c.sitd (same_Some (Isochronous has.itd) (SplitIsochronous c.sitd) (sym has.here ∙ was)))

missed_is_idle : (c : SitdCopy) → (missed_copy c.held).sitd.active ≡ false
unfolding missed_sitd
missed_is_idle c = refl

sitd_written_keeps : (met : ℕ → Option Kind) (parts : StructureSets) (hand : FrameHand) (p : FramePlace) (now : StructureSets) (later : FrameHand) → Tells p.memory parts → IsInFrame met parts p.walk.got p.walk.reply hand → WritesSitd parts p.walk hand now later → Keeps parts now
sitd_written_keeps met parts hand p now later told k w = by_case w.written
  where
    got : List ℕ
    got = sitd_received w.back.held.sitd.dir_in w.outcome p.walk.reply

    c : IsCopiedSitd met parts p.walk.reply w.copy
    c = subst (IsInFrame met parts p.walk.got p.walk.reply) w.in_hand k

    fit : Fit (parts w.copy.held.at) got w.into
    fit = fit_at (parts w.copy.held.at) (sitd_pages w.back.held.sitd) (sitd_place w.back.held.sitd) got w.into w.received_is

    put_there : (new : SitdCopy) → w.back ≡ new → new.held.at ≡ w.copy.held.at → parts new.held.at new.held.at ≡ Some (SplitIsochronous new.sitd) → (w.back.held.sitd.active ≡ true → IsMoved w.back p.walk.reply w.outcome) → Keeps parts now
    put_there new e at was moves =
        subst (Keeps parts) (sym w.now_is)
        (sitd_put_keeps p parts w.back w.outcome got w.into told moves (subst (λ (b : SitdCopy). parts b.held.at b.held.at ≡ Some (SplitIsochronous b.sitd)) (sym e) was)
        (subst (λ (n : ℕ). Fit (parts n) got w.into) (sym at ∙ ap (λ (b : SitdCopy). b.held.at) (sym e)) fit))

    by_case : IsWrittenFrom p.walk w.copy w.back → Keeps parts now
    by_case (made e) =
        put_there w.copy e refl c.here
        (λ active. subst (λ (b : SitdCopy). IsMoved b p.walk.reply w.outcome) (sym e) (subst (IsTurned w.copy p.walk.reply) (ap (λ (b : SitdCopy). b.held.settled) (sym e) ∙ w.settled) c.turn))
    by_case (missed none turn e) =
        put_there (record w.copy { held = missed_copy w.copy.held }) e refl c.here
        (λ active. absurd (true≢false (sym active ∙ ap (λ (b : SitdCopy). b.held.sitd.active) e ∙ missed_is_idle w.copy)))

-- ---- an event

written_keeps : (met : ℕ → Option Kind) (parts : StructureSets) (hand : FrameHand) (p : FramePlace) (now : StructureSets) (later : FrameHand) → IsFrame met parts hand p → WritesOne parts p.walk hand now later → Keeps parts now
written_keeps met parts hand p now later k (of_queue w) = queue_written_keeps met parts p.walk hand now later k.walk.in_hand w
written_keeps met parts hand p now later k (of_itd w) = itd_written_keeps met parts hand p now later k.walk.in_hand w
written_keeps met parts hand p now later k (of_sitd w) = sitd_written_keeps met parts hand p now later k.tells k.walk.in_hand w

pub frames_keep : {W : Type 0} (transacts : W → Ask → List ℕ → Reply → W → Type 0) → FramesKeep transacts
frames_keep transacts met parts hand p wire after now later _ k (fetches none f same quiet) = keeps_same parts now same
frames_keep transacts met parts hand p wire after now later _ k (passes some none same quiet) = keeps_same parts now same
frames_keep transacts met parts hand p wire after now later _ k (ends nothing none same quiet) = keeps_same parts now same
frames_keep transacts met parts hand p wire after now later _ k (takes t quiet) = takes_keep met parts p.walk.got p.walk.reply hand now later k.walk.in_hand t
frames_keep transacts met parts hand p wire after now later _ k (makes m same) = keeps_same parts now same
frames_keep transacts met parts hand p wire after now later _ k (writes w quiet) = written_keeps met parts hand p now later k w
