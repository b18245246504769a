-- What the controller's words are is told: each lies in a structure that memory tells.
use Rattle.std.proofs.Common.{◌≡◌, ℕ, ◌+◌, ◌-◌, ◌*◌, ◌/◌, ◌<◌, ◌≤◌, Bool, true, false, List, length, Option, Some, None, ap, refl, sym}
use Rattle.std.proofs.Common.{subst, ◌∙◌, arith}
use Rattle.mem_bytes.specs.Bytes.{place}
use Rattle.link_words.specs.declared.kinds.QtdLink.{QtdLink}
use Rattle.link_words.specs.declared.kinds.QtdLink.TheVariants as qtd_links
use Rattle.link_words.specs.Links.{qtd_link_of}
use Rattle.qh_qtd.specs.declared.qtd.Qtd.{Qtd}
use Rattle.qh_qtd.specs.declared.queue_head.Qh.{Qh}
use Rattle.itd_sitd.specs.declared.itd.Itd.{Itd}
use Rattle.itd_sitd.specs.declared.sitd.Sitd.{Sitd}
use Rattle.itd_sitd.specs.Itd.{slot_of}
use Rattle.mem_queues.specs.Structures.{queue_head_at_address, qtd_at_address}
use Rattle.mem_descriptors.specs.Descriptors.{itd_at_address, sitd_at_address}
use Rattle.hc_copy.specs.Visits.{next_pointer}
use Rattle.hc_copy.specs.Overlay.{pages_of, buffer_place}
use Rattle.hc_iso.specs.Sitd.{sitd_place}
use Rattle.hc_iso.specs.WriteBack.{itd_pages, slot_place, sitd_pages}
use Rattle.hc_core.specs.Controller.{Content}
use Rattle.claims_base.specs.Controller.{Base}
use Rattle.claims_world.specs.Reach.{Reached, QueueAt, QtdAt, ItdAt, SitdAt, ByteAt, Reaches, leads_to_qtd, qtd_pages, qtd_place}
use Rattle.claims_world.specs.Reach.{IsPartOfQueue, IsPartOfQtd, IsPartOfItd, IsPartOfSitd}
use Rattle.claims_world.specs.Reach as reach
use Rattle.claims_world.specs.Owners.{IsReceiving, IsControllers}
use Rattle.claims_world.specs.Owners as owners
use Rattle.law_structures.specs.lent_structures.Structures.{QueueHead, Element, Buffer, Isochronous, SplitIsochronous, StructureSets, Tells}
use Rattle.law_structures.specs.lent_structures.Sound.{HasBuffer, IsReady, IsSoundElement, IsWorking, IsSoundQueue, element_pages}
use Rattle.law_structures.specs.lent_structures.Sound.{buffer_name}
use Rattle.law_structures.proofs.lemmas.lent_structures.Reading.{element_read, itd_read_there, sitd_read_there}
use Rattle.law_ring.specs.Hand.{Hand}
use Rattle.law_frames.specs.Met.{Kind, AnItd, ASitd, IsQueuePart, IsBuffered, IsMetItd, IsMetSitd}
use Rattle.law_frames.specs.FrameHand.{FrameHand}
use Rattle.law_controller.specs.frame_control.Both.{RunsBoth}
use Rattle.law_world.specs.memory.Owners.{IsToldOwn, in_queue, in_qtd, in_itd, in_sitd, in_buffer, RunsTellOwners}
use Rattle.law_world.proofs.lemmas.memory.WaysThere.{IsToldQtd, IsToldQueue, read_is, queue_told, told_read, told}

no_byte : (l : QtdLink) (b : ℕ) → leads_to_qtd l ≡ Some (ByteAt b) → ⊥
no_byte qtd_links.End b is = cc is
no_byte (qtd_links.To a) b is = cc is

module _ (parts : StructureSets) (at : ℕ) where
  buffer_byte : (n : ℕ) (d : Qtd) → HasBuffer (parts n) d d.token.total → (j : ℕ) → j < d.token.total
      → place (element_pages d) (d.offset + j) / 4 ≡ at / 4
      → IsToldOwn parts at
  buffer_byte n d b j below same = record {
    owner = n;
    name = buffer_name d;
    structure = Buffer (element_pages d) d.offset b.bytes;
    here = b.here;
    own = in_buffer (element_pages d) d.offset b.bytes j (let s = b.size in omega (arith, below, s)) same;
  }

  buffered_byte : (n : ℕ) (pages : List ℕ) (from size : ℕ) → IsBuffered (parts n) pages from size → (i : ℕ) → i < size
      → place pages (from + i) / 4 ≡ at / 4
      → IsToldOwn parts at
  buffered_byte n pages from size b i below same =
      let after = b.after in
      let within = b.within in
      let there : b.start + (from - b.start + i) ≡ from + i = omega (arith, after) in
      record {
        owner = n;
        name = place pages b.start;
        structure = Buffer pages b.start b.bytes;
        here = b.here;
        own = in_buffer pages b.start b.bytes (from - b.start + i) (omega (arith, after, within, below))
            (ap (λ (x : ℕ). place pages x / 4) there ∙ same);
      }

  -- ---- a queue head

  module _ (n : ℕ) (p : IsQueuePart n (parts n)) where
    working_byte : (q : Qh) (w : IsWorking (parts n) q) (i : ℕ) → i < q.token.total → place (pages_of q) (buffer_place q + i) / 4 ≡ at / 4
        → IsToldOwn parts at
    working_byte q w i below same =
        let fewer = w.fewer in
        let start = w.place in
        let sound : IsSoundElement (parts n) w.element = p.elements q.current w.element w.here in
        let ready : IsReady (parts n) w.element = sound.work w.published in
        let some : 0 < w.element.token.total = omega (arith, below, fewer) in
        let there : w.element.offset + (w.element.token.total - q.token.total + i) ≡ buffer_place q + i = omega (arith, fewer, start) in
        buffer_byte n w.element (ready.buffer some) (w.element.token.total - q.token.total + i) (omega (arith, fewer, below))
        (ap (λ (x : ℕ). place (element_pages w.element) x / 4) there ∙ ap (λ (ps : List ℕ). place ps (buffer_place q + i) / 4) (sym w.pages)
        ∙ same)

    queue_byte : (q : Qh) → IsSoundQueue (parts n) q → (b : ℕ) → b / 4 ≡ at / 4 → IsPartOfQueue q (ByteAt b) → IsToldOwn parts at
    queue_byte q s b same (reach.current goes active is) = absurd (cc is)
    queue_byte q s b same (reach.next goes active is) = absurd (no_byte (qtd_link_of q.next) b is)
    queue_byte q s b same (reach.alternate goes active is) = absurd (no_byte (qtd_link_of q.alternate) b is)
    queue_byte q s b same (reach.byte goes active i below is) =
        let e : b ≡ place (pages_of q) (buffer_place q + i) = cc is in working_byte q (s.work active) i below
        (ap (λ (x : ℕ). x / 4) (sym e) ∙ same)
    queue_byte q s b same (reach.taken goes rests is) = absurd (no_byte (qtd_link_of (next_pointer q)) b is)

    qtd_byte : (d : Qtd) → IsSoundElement (parts n) d → (b : ℕ) → b / 4 ≡ at / 4 → IsPartOfQtd d (ByteAt b) → IsToldOwn parts at
    qtd_byte d s b same (reach.next active is) = absurd (no_byte (qtd_link_of d.next) b is)
    qtd_byte d s b same (reach.alternate active is) = absurd (no_byte (qtd_link_of d.alternate) b is)
    qtd_byte d s b same (reach.byte active i below is) =
        let e : b ≡ place (qtd_pages d) (qtd_place d + i) = cc is in
        let ready : IsReady (parts n) d = s.work active in
        let start = ready.start in
        let there : d.offset + i ≡ qtd_place d + i = omega (arith, start) in
        buffer_byte n d (ready.buffer (omega (arith, below))) i below
        (ap (λ (x : ℕ). place (qtd_pages d) x / 4) there ∙ ap (λ (x : ℕ). x / 4) (sym e) ∙ same)

module _ (base : Base) (member : ℕ → Bool) (met : ℕ → Option Kind) (parts : StructureSets) (hand : Hand) (frame : FrameHand)
    (c : Content) (k : RunsBoth base member met parts hand frame c) (at : ℕ) where
  tells : Tells c.memory parts
  tells = k.ring.tells

  queue_at : (a : ℕ) → Reaches c (QueueAt a) → IsToldQueue base member met parts hand frame c k a
  queue_at a way = queue_told base member met parts hand frame c k a (told base member met parts hand frame c k (QueueAt a) way)

  qtd_at : (a : ℕ) → Reaches c (QtdAt a) → IsToldQtd parts a
  qtd_at a way = told base member met parts hand frame c k (QtdAt a) way

  itd_at : (a : ℕ) → Reaches c (ItdAt a) → IsMetItd met a (parts a)
  itd_at a way = k.members a AnItd (told base member met parts hand frame c k (ItdAt a) way)

  sitd_at : (a : ℕ) → Reaches c (SitdAt a) → IsMetSitd met a (parts a)
  sitd_at a way = k.members a ASitd (told base member met parts hand frame c k (SitdAt a) way)

  -- what is the same as a read one has what that has
  queue_back : (P : Qh → Type 0) (a : ℕ) (q : Qh) (way : Reaches c (QueueAt a)) → queue_head_at_address c.memory a ≡ Some q → P q
      → P (queue_at a way).part_is.queue
  queue_back P a q way there has = let x = queue_at a way in read_is P (queue_head_at_address c.memory a) q x.part_is.queue there
      (told_read base member met parts hand frame c k a x) has

  qtd_back : (P : Qtd → Type 0) (a : ℕ) (d : Qtd) (way : Reaches c (QtdAt a)) → qtd_at_address c.memory a ≡ Some d → P d
      → P (qtd_at a way).qtd
  qtd_back P a d way there has = let x = qtd_at a way in read_is P (qtd_at_address c.memory a) d x.qtd there
      (element_read c.memory parts x.owner a x.qtd tells x.here) has

  itd_back : (P : Itd → Type 0) (a : ℕ) (v : Itd) (way : Reaches c (ItdAt a)) → itd_at_address c.memory a ≡ Some v → P v
      → P (itd_at a way).itd
  itd_back P a v way there has = let m = itd_at a way in read_is P (itd_at_address c.memory a) v m.itd there
      (itd_read_there c.memory parts a a m.itd tells m.here) has

  sitd_back : (P : Sitd → Type 0) (a : ℕ) (v : Sitd) (way : Reaches c (SitdAt a)) → sitd_at_address c.memory a ≡ Some v → P v
      → P (sitd_at a way).sitd
  sitd_back P a v way there has = let m = sitd_at a way in read_is P (sitd_at_address c.memory a) v m.sitd there
      (sitd_read_there c.memory parts a a m.sitd tells m.here) has

  itd_byte : (a : ℕ) (m : IsMetItd met a (parts a)) (b : ℕ) → b / 4 ≡ at / 4 → IsPartOfItd m.itd (ByteAt b) → IsToldOwn parts at
  itd_byte a m b same (reach.byte u low active i below is) =
      let e : b ≡ place (itd_pages m.itd) (slot_place (slot_of u m.itd) + i) = cc is in
      buffered_byte parts at a (itd_pages m.itd) (slot_place (slot_of u m.itd)) (slot_of u m.itd).length
      (m.slots u low active (omega (arith, below))) i below
      (ap (λ (x : ℕ). x / 4) (sym e) ∙ same)

  sitd_byte : (a : ℕ) (m : IsMetSitd met a (parts a)) (b : ℕ) → b / 4 ≡ at / 4 → IsPartOfSitd m.sitd (ByteAt b) → IsToldOwn parts at
  sitd_byte a m b same (reach.byte active i below is) =
      let e : b ≡ place (sitd_pages m.sitd) (sitd_place m.sitd + i) = cc is in
      buffered_byte parts at a (sitd_pages m.sitd) (sitd_place m.sitd) m.sitd.total (m.bytes active (omega (arith, below))) i below
      (ap (λ (x : ℕ). x / 4) (sym e) ∙ same)

  byte_told : (b : ℕ) → IsReceiving c b → b / 4 ≡ at / 4 → IsToldOwn parts at
  byte_told b (owners.by_queue a q way there pid part) same =
      let x = queue_at a way in
      queue_byte parts at a x.part_is x.part_is.queue x.part_is.sound b same
      (queue_back (λ (y : Qh). IsPartOfQueue y (ByteAt b)) a q way there part)
  byte_told b (owners.by_qtd a d way there pid part) same =
      let x = qtd_at a way in
      qtd_byte parts at x.owner x.part_is x.qtd (x.part_is.elements a x.qtd x.here) b same
      (qtd_back (λ (y : Qtd). IsPartOfQtd y (ByteAt b)) a d way there part)
  byte_told b (owners.by_itd a v way there dir part) same =
      itd_byte a (itd_at a way) b same (itd_back (λ (y : Itd). IsPartOfItd y (ByteAt b)) a v way there part)
  byte_told b (owners.by_sitd a v way there dir part) same =
      sitd_byte a (sitd_at a way) b same (sitd_back (λ (y : Sitd). IsPartOfSitd y (ByteAt b)) a v way there part)

  word_told : IsControllers c at → IsToldOwn parts at
  word_told (owners.of_overlay a q i way there goes low high is) =
      let x = queue_at a way in
      record {
        owner = a;
        name = a;
        structure = QueueHead x.part_is.queue;
        here = x.part_is.here;
        own = in_queue x.part_is.queue i (queue_back (λ (y : Qh). y.token.halted ≡ false) a q way there goes) low high is;
      }
  word_told (owners.of_token a d way there active is) =
      let x = qtd_at a way in
      record {
        owner = x.owner;
        name = a;
        structure = Element x.qtd;
        here = x.here;
        own = in_qtd x.qtd (qtd_back (λ (y : Qtd). y.token.active ≡ true) a d way there active) is;
      }
  word_told (owners.of_slot a v u way there low active is) =
      let m = itd_at a way in record { owner = a; name = a; structure = Isochronous m.itd; here = m.here; own = in_itd m.itd u low is }
  word_told (owners.of_state a v i way there active low high is) =
      let m = sitd_at a way in record {
        owner = a;
        name = a;
        structure = SplitIsochronous m.sitd;
        here = m.here;
        own = in_sitd m.sitd i low
            high is;
      }
  word_told (owners.of_byte b comes same) = byte_told b comes same

pub runs_tell_owners : RunsTellOwners
runs_tell_owners = λ base member met parts hand frame c k at own. word_told base member met parts hand frame c k at own
