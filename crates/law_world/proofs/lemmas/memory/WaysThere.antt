-- What is reached is told: by recursion on the way there.
use Rattle.std.proofs.Common.{◌≡◌, ℕ, ◌+◌, ◌*◌, ◌-◌, ◌<◌, Bool, true, false, List, length, get_or, slice_index, Option, Some, None, ap}
use Rattle.std.proofs.Common.{refl, sym, subst, ◌∙◌, arith, ⊎_elim, inl, inr}
use Rattle.std.specs.Prelude.{◌⊎◌, IfSome}
use Rattle.usb_base.specs.declared.packets.Reply.{Reply}
use Rattle.word_mem.specs.Memory.{Mem, reaches, word_at}
use Rattle.word_mem.proofs.Words.{get_or-words_in}
use Rattle.mem_bytes.specs.Bytes.{place}
use Rattle.link_words.specs.declared.kinds.Link.{Link}
use Rattle.link_words.specs.declared.kinds.Link.TheVariants as links
use Rattle.link_words.specs.declared.kinds.QtdLink.{QtdLink}
use Rattle.link_words.specs.declared.kinds.QtdLink.TheVariants as qtd_links
use Rattle.link_words.specs.declared.fields.LinkBits.{LinkBits}
use Rattle.link_words.specs.declared.fields.ShortLink.{ShortLink}
use Rattle.link_words.specs.Links.{link_of, link_read, qtd_link_of}
use Rattle.qh_qtd.specs.declared.qtd.Qtd.{Qtd}
use Rattle.qh_qtd.specs.declared.queue_head.Qh.{Qh}
use Rattle.itd_sitd.specs.declared.itd.Itd.{Itd}
use Rattle.itd_sitd.specs.declared.sitd.Sitd.{Sitd}
use Rattle.itd_sitd.specs.Itd.{slot_of}
use Rattle.mem_queues.specs.Structures.{queue_head_at_address, qtd_at_address}
use Rattle.mem_descriptors.specs.Descriptors.{itd_at_address, sitd_at_address}
use Rattle.hc_copy.specs.declared.held.Held.{Held}
use Rattle.hc_copy.specs.Overlay.{pages_of, buffer_place, settled_queue}
use Rattle.hc_iso.specs.Sitd.{sitd_place}
use Rattle.hc_iso.specs.WriteBack.{itd_pages, slot_place, sitd_pages}
use Rattle.async_walk.specs.Rows.{cursor_link}
use Rattle.periodic_walk.specs.declared.state.Hand.{Hand as FrameCopy}
use Rattle.periodic_walk.specs.declared.state.Hand.TheVariants as hands
use Rattle.hc_core.specs.declared.controller.MicroframePart.TheVariants.{Periodic}
use Rattle.hc_core.specs.Controller.{Content, frame_place, walk_place}
use Rattle.claims_base.specs.Controller.{Base, base_of}
use Rattle.claims_world.specs.Reach.{Reached, TheList, QueueAt, QtdAt, ItdAt, SitdAt, FstnAt, ByteAt, leads_to, leads_to_qtd, element_at}
use Rattle.claims_world.specs.Reach.{IsLentAt, held_at, held_link}
use Rattle.claims_world.specs.Reach.{IsPartOfQueue, IsPartOfQtd, IsPartOfItd, IsPartOfSitd, qtd_pages, qtd_place, IsHeld, IsQueueHeadAt}
use Rattle.claims_world.specs.Reach.{Reaches}
use Rattle.claims_world.specs.Reach as reach
use Rattle.law_structures.specs.lent_structures.Structures.{QueueHead, Element, Buffer, Table, Isochronous, SplitIsochronous, HoldsBuffer}
use Rattle.law_structures.specs.lent_structures.Structures.{HoldsTable, HoldsIsochronous, HoldsSplitIsochronous, Structures, StructureSets}
use Rattle.law_structures.specs.lent_structures.Structures.{Tells}
use Rattle.law_structures.specs.lent_structures.Sound.{IsElement, LeadsOn, LeadsAmong, HasBuffer, IsReady, IsSoundElement, IsWorking}
use Rattle.law_structures.specs.lent_structures.Sound.{IsSoundQueue, IsMember, element_pages, buffer_name}
use Rattle.law_structures.proofs.lemmas.lent_structures.Reading.{head_read, head_reached, element_read, element_reached, itd_read_there}
use Rattle.law_structures.proofs.lemmas.lent_structures.Reading.{sitd_read_there}
use Rattle.law_ring.specs.Hand.{Copy, copied_queue, Hand, Empty, Copied, Settled, Stale, held_of, settled_queue_of}
use Rattle.law_ring.specs.Ring.{IsCopied, IsInHand, IsStale}
use Rattle.law_frames.specs.Met.{Kind, AQueue, AnItd, ASitd, LeadsTo, IsQueuePart, IsBuffered, IsMetQueue, IsMetItd, IsMetSitd}
use Rattle.law_frames.specs.FrameHand.{FrameHand, Nothing, OfQueue, OfSettled, OfItd, OfSitd, frame_held, settled_in}
use Rattle.law_frames.specs.Frame.{IsCopiedQueue, IsCopiedItd, IsCopiedSitd, IsInFrame, IsFrameWalk}
use Rattle.law_controller.specs.frame_control.Both.{RunsBoth}
use Rattle.law_world.specs.memory.Reach.{RunsReachLent}

-- a qTD of a queue head of which all is sound
pub record IsToldQtd (parts : StructureSets) (a : ℕ) : Type 0 where
  pub owner : ℕ
  pub part_is : IsQueuePart owner (parts owner)
  pub qtd : Qtd
  pub here : parts owner a ≡ Some (Element qtd)

-- what is the same as a read one has what that has
pub read_is : {X : Type 0} (P : X → Type 0) (o : Option X) (x y : X) → o ≡ Some x → o ≡ Some y → P x → P y
read_is P o x y one other has = subst (λ p. IfSome p P) other (subst (λ p. IfSome p P) (sym one) has)

module _ (base : Base) (member : ℕ → Bool) (met : ℕ → Option Kind) (parts : StructureSets) (hand : Hand) (frame : FrameHand)
    (c : Content) (k : RunsBoth base member met parts hand frame c) where
  tells : Tells c.memory parts
  tells = k.ring.tells

  abbrev pub IsTold : Reached → Type 0
  IsTold TheList = Unit {0}
  IsTold (QueueAt a) = (member a ≡ true) ⊎ (met a ≡ Some AQueue)
  IsTold (QtdAt a) = IsToldQtd parts a
  IsTold (ItdAt a) = met a ≡ Some AnItd
  IsTold (SitdAt a) = met a ≡ Some ASitd
  IsTold (FstnAt a) = ⊥
  IsTold (ByteAt a) = reaches c.memory a ≡ true

  -- ---- links

  met_lead : (l : Link) → LeadsTo met l → IfSome (leads_to l) IsTold
  met_lead links.End on = tt
  met_lead (links.Itd a) on = on
  met_lead (links.Qh a) on = inr on
  met_lead (links.Sitd a) on = on
  met_lead (links.Fstn a) on = on

  member_lead : (l : LinkBits) → LeadsAmong member l → IfSome (leads_to (link_of l)) IsTold
  member_lead l among = subst (λ (x : Link). IfSome (leads_to x) IsTold) (sym among.leads) (inl among.on)

  led : (l : Link) (t : Reached) → IfSome (leads_to l) IsTold → leads_to l ≡ Some t → IsTold t
  led l t told is = subst (λ o. IfSome o IsTold) is told

  -- ---- queue heads

  -- its part is sound, and its link leads to what is told
  pub record IsToldQueue (a : ℕ) : Type 0 where
    pub part_is : IsQueuePart a (parts a)
    pub link : IfSome (leads_to (link_of part_is.queue.link)) IsTold

  of_member : (a : ℕ) → IsMember member a (parts a) → IsToldQueue a
  of_member a m = record {
    part_is = record { queue = m.queue; here = m.here; sound = m.sound; elements = m.elements; own = m.own };
    link = member_lead m.queue.link m.link;
  }

  of_met : (a : ℕ) → IsMetQueue met a (parts a) → IsToldQueue a
  of_met a m = record { part_is = m.part_is; link = met_lead (link_of m.part_is.queue.link) m.link }

  pub queue_told : (a : ℕ) → IsTold (QueueAt a) → IsToldQueue a
  queue_told a told = ⊎_elim (λ (on : member a ≡ true). of_member a (k.ring.members a on))
      (λ (on : met a ≡ Some AQueue). of_met a (k.members a AQueue on)) told

  -- ---- the bytes of a buffer

  byte_of : (n : ℕ) (d : Qtd) (size : ℕ) → HasBuffer (parts n) d size → (j : ℕ) → j < size
      → reaches c.memory (place (element_pages d) (d.offset + j)) ≡ true
  byte_of n d size b j below =
      let h : HoldsBuffer c.memory (buffer_name d) (element_pages d) d.offset b.bytes = tells.each n (buffer_name d)
      (Buffer (element_pages d) d.offset b.bytes) b.here in
      h.lent j (let is = b.size in omega (arith, below, is))

  buffered : (n : ℕ) (pages : List ℕ) (from size : ℕ) → IsBuffered (parts n) pages from size → (i : ℕ) → i < size
      → reaches c.memory (place pages (from + i)) ≡ true
  buffered n pages from size b i below =
      let h : HoldsBuffer c.memory (place pages b.start) pages b.start b.bytes = tells.each n (place pages b.start)
      (Buffer pages b.start b.bytes) b.here in
      let after = b.after in
      let within = b.within in
      let at : b.start + (from - b.start + i) ≡ from + i = omega (arith, after) in
      subst (λ (x : ℕ). reaches c.memory (place pages x) ≡ true) at (h.lent (from - b.start + i) (omega (arith, after, within, below)))

  -- ---- the parts of a queue head

  module _ (n : ℕ) (p : IsQueuePart n (parts n)) where
    element_told : (a : ℕ) (d : Qtd) → parts n a ≡ Some (Element d) → IsTold (QtdAt a)
    element_told a d here = record { owner = n; part_is = p; qtd = d; here = here }

    lead_on : (l : QtdLink) → LeadsOn (parts n) l → IfSome (leads_to_qtd l) IsTold
    lead_on qtd_links.End on = tt
    lead_on (qtd_links.To a) on = element_told a on.qtd on.here

    led_on : (l : ShortLink) (t : Reached) → LeadsOn (parts n) (qtd_link_of l) → leads_to_qtd (qtd_link_of l) ≡ Some t → IsTold t
    led_on l t on is = subst (λ o. IfSome o IsTold) is (lead_on (qtd_link_of l) on)

    module _ (q : Qh) (w : IsWorking (parts n) q) where
      sound_element : IsSoundElement (parts n) w.element
      sound_element = p.elements q.current w.element w.here

      working_byte : (i : ℕ) → i < q.token.total → reaches c.memory (place (pages_of q) (buffer_place q + i)) ≡ true
      working_byte i below =
          let fewer = w.fewer in
          let at = w.place in
          let ready : IsReady (parts n) w.element = sound_element.work w.published in
          let some : 0 < w.element.token.total = omega (arith, below, fewer) in
          let there : w.element.offset + (w.element.token.total - q.token.total + i) ≡ buffer_place q + i = omega (arith, fewer, at) in
          let byte = byte_of n w.element w.element.token.total (ready.buffer some) (w.element.token.total - q.token.total + i)
          (omega (arith, fewer, below)) in
          subst (λ (pages : List ℕ). reaches c.memory (place pages (buffer_place q + i)) ≡ true) (sym w.pages)
          (subst (λ (x : ℕ). reaches c.memory (place (element_pages w.element) x) ≡ true) there byte)

      next_on : LeadsOn (parts n) (qtd_link_of q.next)
      next_on = subst (λ (l : ShortLink). LeadsOn (parts n) (qtd_link_of l)) (sym w.next) sound_element.next

      alternate_on : LeadsOn (parts n) (qtd_link_of q.alternate)
      alternate_on = subst (λ (l : ShortLink). LeadsOn (parts n) (qtd_link_of l)) (sym w.alternate) sound_element.alternate

    queue_part : (q : Qh) → IsSoundQueue (parts n) q → (t : Reached) → IsPartOfQueue q t → IsTold t
    queue_part q s t (reach.current goes active is) = subst IsTold (sym is)
        (let w = s.work active in element_told q.current w.element w.here)
    queue_part q s t (reach.next goes active is) = led_on q.next t (next_on q (s.work active)) is
    queue_part q s t (reach.alternate goes active is) = led_on q.alternate t (alternate_on q (s.work active)) is
    queue_part q s t (reach.byte goes active i below is) = subst IsTold (sym is) (working_byte q (s.work active) i below)
    queue_part q s t (reach.taken goes rests is) = subst (λ o. IfSome o IsTold) is (lead_on _ (s.rest goes rests))

    qtd_part : (a : ℕ) (d : Qtd) → IsSoundElement (parts n) d → (t : Reached) → IsPartOfQtd d t → IsTold t
    qtd_part a d s t (reach.next active is) = led_on d.next t s.next is
    qtd_part a d s t (reach.alternate active is) = led_on d.alternate t s.alternate is
    qtd_part a d s t (reach.byte active i below is) =
        let ready : IsReady (parts n) d = s.work active in
        let start = ready.start in
        let at : d.offset + i ≡ qtd_place d + i = omega (arith, start) in
        subst IsTold (sym is) (subst (λ (x : ℕ). reaches c.memory (place (qtd_pages d) x) ≡ true) at (byte_of n d d.token.total
        (ready.buffer (omega (arith, below))) i below))

  abbrev HasParts : Qh → Type 0
  HasParts q = (t : Reached) → IsPartOfQueue q t → IsTold t

  abbrev LinkTold : LinkBits → Type 0
  LinkTold l = IfSome (leads_to (link_of l)) IsTold

  told_parts : (a : ℕ) (x : IsToldQueue a) → HasParts x.part_is.queue
  told_parts a x = queue_part a x.part_is x.part_is.queue x.part_is.sound

  pub told_read : (a : ℕ) (x : IsToldQueue a) → queue_head_at_address c.memory a ≡ Some x.part_is.queue
  told_read a x = head_read c.memory parts a a x.part_is.queue tells x.part_is.here

  read_parts : (a : ℕ) (q : Qh) → IsTold (QueueAt a) → queue_head_at_address c.memory a ≡ Some q → HasParts q
  read_parts a q told is = let x = queue_told a told in read_is HasParts (queue_head_at_address c.memory a) x.part_is.queue q
      (told_read a x) is (told_parts a x)

  read_link : (a : ℕ) (q : Qh) → IsTold (QueueAt a) → queue_head_at_address c.memory a ≡ Some q → LinkTold q.link
  read_link a q told is =
      let x = queue_told a told in
      read_is (λ (y : Qh). LinkTold y.link) (queue_head_at_address c.memory a) x.part_is.queue q (told_read a x) is x.link

  -- ---- copies of queue heads: link and count of NAKs may differ

  copy_part : (x : Copy) (t : Reached) → IsPartOfQueue (copied_queue x) t → IsPartOfQueue x.queue t
  copy_part x t (reach.current goes active is) = reach.current goes active is
  copy_part x t (reach.next goes active is) = reach.next goes active is
  copy_part x t (reach.alternate goes active is) = reach.alternate goes active is
  copy_part x t (reach.byte goes active i below is) = reach.byte goes active i below is
  copy_part x t (reach.taken goes rests is) = reach.taken goes rests is

  copy_parts : (x : Copy) → IsTold (QueueAt x.at) → parts x.at x.at ≡ Some (QueueHead x.queue) → HasParts (copied_queue x)
  copy_parts x told here t part = read_parts x.at x.queue told (head_read c.memory parts x.at x.at x.queue tells here) t
      (copy_part x t part)

  record IsToldHeld (h : Held) : Type 0 where
    at : IsTold (QueueAt h.at)
    link : LinkTold h.queue_head.link
    parts_are : h.settled ≡ None → HasParts h.queue_head

  stale_parts : (n : ℕ) (q : Qh) → IsStale member n q → HasParts q
  stale_parts n q s t (reach.current goes active is) = cc (goes, s.halted)
  stale_parts n q s t (reach.next goes active is) = cc (goes, s.halted)
  stale_parts n q s t (reach.alternate goes active is) = cc (goes, s.halted)
  stale_parts n q s t (reach.byte goes active i below is) = cc (goes, s.halted)
  stale_parts n q s t (reach.taken goes rests is) = cc (goes, s.halted)

  ring_held : (reply : Reply) (x : Hand) → IsInHand member parts reply x → IfSome (held_of x) IsToldHeld
  unfolding settled_queue
  ring_held reply Empty in_hand = tt
  ring_held reply (Copied x) in_hand = record {
    at = inl in_hand.on;
    link = member_lead x.link in_hand.link;
    parts_are = λ none. copy_parts x (inl in_hand.on) in_hand.here;
  }
  ring_held reply (Settled x s) in_hand = record {
    at = inl (in_hand.0).on;
    link = member_lead x.link
        (in_hand.0).link;
    parts_are = λ none. cc none;
  }
  ring_held reply (Stale n q) in_hand =
      record { at = inl in_hand.on; link = member_lead q.link in_hand.link; parts_are = λ none. stale_parts n q in_hand }

  abbrev QueueCopyTold : FrameCopy → Type 0
  QueueCopyTold (hands.Queue h) = IsToldHeld h.copy
  QueueCopyTold (hands.Itd h) = Unit {0}
  QueueCopyTold (hands.Sitd h) = Unit {0}

  record IsToldCopy (h : FrameCopy) : Type 0 where
    at : IsTold (held_at h)
    link : IfSome (leads_to (held_link h)) IsTold
    queue : QueueCopyTold h

  queue_copy : (x : Copy) → IsCopiedQueue met parts x → HasParts (copied_queue x)
  queue_copy x in_hand = copy_parts x (inr in_hand.on) in_hand.here

  frame_copy : (got : List ℕ) (reply : Reply) (x : FrameHand) → IsInFrame met parts got reply x → IfSome (frame_held x) IsToldCopy
  unfolding settled_queue
  frame_copy got reply Nothing in_hand = tt
  frame_copy got reply (OfQueue x made) in_hand =
      let link : LinkTold x.link = met_lead (link_of x.link) in_hand.link in
      record { at = inr in_hand.on; link = link; queue = record { at = inr in_hand.on; link = link; parts_are = λ none. queue_copy x in_hand } }
  frame_copy got reply (OfSettled x z made) in_hand =
      let link : LinkTold x.link = met_lead (link_of x.link) (in_hand.0).link in
      record { at = inr (in_hand.0).on; link = link; queue = record { at = inr (in_hand.0).on; link = link; parts_are = λ none. cc none } }
  frame_copy got reply (OfItd x) in_hand = record { at = in_hand.on; link = met_lead (link_of x.held.itd.link) in_hand.link; queue = tt }
  frame_copy got reply (OfSitd x) in_hand = record { at = in_hand.on; link = met_lead (link_of x.held.sitd.link) in_hand.link; queue = tt }

  held_told : (h : Held) → c.control.walk.held ≡ Some h → IsToldHeld h
  held_told h is = subst (λ o. IfSome o IsToldHeld) (sym k.ring.held ∙ is) (ring_held c.control.walk.reply hand k.ring.in_hand)

  copy_told : (h : FrameCopy) → c.control.part ≡ Periodic → c.control.frame.hand ≡ Some h → IsToldCopy h
  copy_told h part is =
      let walk : IsFrameWalk met parts frame (frame_place c) = k.walk part in
      subst (λ o. IfSome o IsToldCopy) (sym walk.held ∙ is) (frame_copy c.control.frame.got c.control.frame.reply frame walk.in_hand)

  held_is : (t : Reached) (l : Link) → IsHeld c t l → IsTold t
  held_is t l (reach.of_ring h is at link) = subst IsTold (sym at) (held_told h is).at
  held_is t l (reach.of_frame h part is at link) = subst IsTold (sym at) (copy_told h part is).at

  held_leads : (s : Reached) (l : Link) → IsHeld c s l → IfSome (leads_to l) IsTold
  held_leads s l (reach.of_ring h is at link) = subst (λ (x : Link). IfSome (leads_to x) IsTold) (sym link) (held_told h is).link
  held_leads s l (reach.of_frame h part is at link) = subst (λ (x : Link). IfSome (leads_to x) IsTold) (sym link) (copy_told h part is).link

  head_parts : (a : ℕ) (q : Qh) → IsTold (QueueAt a) → IsQueueHeadAt c a q → HasParts q
  head_parts a q told (reach.in_memory is) = read_parts a q told is
  head_parts a q told (reach.in_ring h is none at same) = subst HasParts (sym same) ((held_told h is).parts_are none)
  head_parts a q told (reach.in_frame h part is none at same) =
      let x : IsToldHeld h.copy = (copy_told (hands.Queue h) part is).queue in
      subst HasParts (sym same) (x.parts_are none)

  -- ---- qTDs and descriptors

  qtd_parts : (a : ℕ) (d : Qtd) → IsTold (QtdAt a) → qtd_at_address c.memory a ≡ Some d → (t : Reached) → IsPartOfQtd d t → IsTold t
  qtd_parts a d told is =
      read_is (λ (y : Qtd). (t : Reached) → IsPartOfQtd y t → IsTold t) (qtd_at_address c.memory a) told.qtd d
      (element_read c.memory parts told.owner a told.qtd tells told.here) is
      (qtd_part told.owner told.part_is a told.qtd (told.part_is.elements a told.qtd told.here))

  record IsToldItd (v : Itd) : Type 0 where
    link : LinkTold v.link
    parts_are : (t : Reached) → IsPartOfItd v t → IsTold t

  itd_parts : (a : ℕ) (m : IsMetItd met a (parts a)) (t : Reached) → IsPartOfItd m.itd t → IsTold t
  itd_parts a m t (reach.byte u low active i below is) =
      subst IsTold (sym is) (buffered a (itd_pages m.itd) (slot_place (slot_of u m.itd)) (slot_of u m.itd).length (m.slots u low active
      (omega (arith, below))) i below)

  itd_told : (a : ℕ) (v : Itd) → met a ≡ Some AnItd → itd_at_address c.memory a ≡ Some v → IsToldItd v
  itd_told a v on is =
      let m : IsMetItd met a (parts a) = k.members a AnItd on in
      read_is IsToldItd (itd_at_address c.memory a) m.itd v (itd_read_there c.memory parts a a m.itd tells m.here) is
      (record { link = met_lead (link_of m.itd.link) m.link; parts_are = itd_parts a m })

  record IsToldSitd (v : Sitd) : Type 0 where
    link : LinkTold v.link
    parts_are : (t : Reached) → IsPartOfSitd v t → IsTold t

  sitd_parts : (a : ℕ) (m : IsMetSitd met a (parts a)) (t : Reached) → IsPartOfSitd m.sitd t → IsTold t
  sitd_parts a m t (reach.byte active i below is) = subst IsTold (sym is)
      (buffered a (sitd_pages m.sitd) (sitd_place m.sitd) m.sitd.total (m.bytes active (omega (arith, below))) i below)

  sitd_told : (a : ℕ) (v : Sitd) → met a ≡ Some ASitd → sitd_at_address c.memory a ≡ Some v → IsToldSitd v
  sitd_told a v on is =
      let m : IsMetSitd met a (parts a) = k.members a ASitd on in
      read_is IsToldSitd (sitd_at_address c.memory a) m.sitd v (sitd_read_there c.memory parts a a m.sitd tells m.here) is
      (record { link = met_lead (link_of m.sitd.link) m.link; parts_are = sitd_parts a m })

  -- ---- the frame list and the cursors

  list_base : c.registers.periodic_list_base ≡ base.periodic_list_base
  list_base = ap (λ (b : Base). b.periodic_list_base) k.ring.registers

  list_there : HoldsTable c.memory base.periodic_list_base k.list.words
  list_there = tells.each base.periodic_list_base base.periodic_list_base (Table k.list.words) k.list.here

  list_lent : (f : ℕ) → f < 1024 → reaches c.memory (c.registers.periodic_list_base + 4 * f) ≡ true
  list_lent f low = subst (λ (b : ℕ). reaches c.memory (b + 4 * f) ≡ true) (sym list_base)
      (list_there.lent f (let size = k.list.size in omega (arith, low, size)))

  element_leads : (f : ℕ) → f < 1024 → IfSome (leads_to (element_at c f)) IsTold
  element_leads f low =
      let size = k.list.size in
      let word : word_at c.memory (base.periodic_list_base + 4 * f) ≡ slice_index k.list.words f =
      sym (get_or-words_in c.memory.words base.periodic_list_base (length k.list.words) f (omega (arith, low, size)))
      ∙ ap (λ ws. get_or ws f 0) list_there.words in
      let read : element_at c f ≡ link_read (slice_index k.list.words f) = ap link_read
      (ap (λ (b : ℕ). word_at c.memory (b + 4 * f)) list_base ∙ word) in
      subst (λ (x : Link). IfSome (leads_to x) IsTold) (sym read) (met_lead (link_read (slice_index k.list.words f)) (k.elements f low))

  head_on : member c.registers.async_list_address ≡ true
  head_on = subst (λ (b : Base). member b.async_list_address ≡ true) (sym k.ring.registers) k.ring.start

  ring_leads : IfSome (leads_to (cursor_link c.registers c.control.walk.cursor)) IsTold
  ring_leads = subst (λ (x : Link). IfSome (leads_to x) IsTold) (sym k.ring.cursor.leads) (inl k.ring.cursor.on)

  -- ---- the way

  pub told : (t : Reached) → Reaches c t → IsTold t
  told t reach.list = tt
  told t reach.head = inl head_on
  told t (reach.element f u low is) = led (element_at c f) u (element_leads f low) is
  told t (reach.frame_cursor u part is) = led c.control.frame.cursor u (met_lead c.control.frame.cursor (k.walk part).cursor) is
  told t (reach.ring_cursor u is) = led (cursor_link c.registers c.control.walk.cursor) u ring_leads is
  told t (reach.held u l holds) = held_is u l holds
  told t (reach.behind_held s u l holds is) = led l u (held_leads s l holds) is
  told t (reach.behind_queue a q u way there is) = led (link_of q.link) u (read_link a q (told (QueueAt a) way) there) is
  told t (reach.behind_itd a v u way there is) = led (link_of v.link) u (itd_told a v (told (ItdAt a) way) there).link is
  told t (reach.behind_sitd a v u way there is) = led (link_of v.link) u (sitd_told a v (told (SitdAt a) way) there).link is
  told t (reach.of_queue a q u way there part) = head_parts a q (told (QueueAt a) way) there u part
  told t (reach.of_qtd a d u way there part) = qtd_parts a d (told (QtdAt a) way) there u part
  told t (reach.of_itd a v u way there part) = (itd_told a v (told (ItdAt a) way) there).parts_are u part
  told t (reach.of_sitd a v u way there part) = (sitd_told a v (told (SitdAt a) way) there).parts_are u part

  -- ---- what is told is Lent

  lent : (t : Reached) → IsTold t → IsLentAt c t
  lent TheList is = list_lent
  lent (QueueAt a) is = let x = queue_told a is in head_reached c.memory parts a a x.part_is.queue tells x.part_is.here
  lent (QtdAt a) is = element_reached c.memory parts is.owner a is.qtd tells is.here
  lent (ItdAt a) is =
      let m : IsMetItd met a (parts a) = k.members a AnItd is in
      let h : HoldsIsochronous c.memory a m.itd = tells.each a a (Isochronous m.itd) m.here in h.lent
  lent (SitdAt a) is =
      let m : IsMetSitd met a (parts a) = k.members a ASitd is in
      let h : HoldsSplitIsochronous c.memory a m.sitd = tells.each a a (SplitIsochronous m.sitd) m.here in h.lent
  lent (FstnAt a) is = is
  lent (ByteAt a) is = is

pub runs_reach_lent : RunsReachLent
runs_reach_lent = λ base member met parts hand frame c k t way. lent base member met parts hand frame c k t
    (told base member met parts hand frame c k t way)
