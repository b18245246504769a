-- What the transaction in hand came to is written back: the bytes received into the buffer, the overlay, and where the qTD ended its token.
use Rattle.std.proofs.Common.{◌≡◌, ℕ, ◌+◌, ◌-◌, ◌<◌, ◌≤◌, Bool, true, not, ◌&&◌, ◌==◌, if◌then◌else◌, List, [], ◌∷◌, length, Option, Some, ap, refl, sym, subst, ◌∙◌, ⊎_elim, arith}
use Rattle.std.specs.Prelude.{◌⊎◌}
use Rattle.law_ring.proofs.Common.{got_few}
use Rattle.law_structures.proofs.Common.{place_few}
use Rattle.usb_base.specs.declared.packets.Reply.{Reply}
use Rattle.word_mem.specs.Memory.{Mem}
use Rattle.link_words.specs.declared.fields.ShortLink.{ShortLink}
use Rattle.link_words.specs.Links.{qtd_link_of}
use Rattle.qh_qtd.specs.declared.qtd.Qtd.{Qtd}
use Rattle.qh_qtd.specs.declared.queue_head.Qh.{Qh}
use Rattle.qh_qtd.specs.QueueHead.{IsQhInRange}
use Rattle.hc_copy.specs.Overlay.{settled_queue, buffer_place, moved}
use Rattle.hc_copy.specs.Planning.{pid_at, host_in}
use Rattle.hc_copy.specs.WriteBack.{moved_by, received}
use Rattle.hc_copy.proofs.Ranges.{moved_in_range}
use Rattle.law_structures.specs.lent_structures.Settles.{Leaves}
use Rattle.law_structures.specs.lent_structures.Structures.{QueueHead, Element, Buffer, Structures, StructureSets, HoldsBuffer, Tells}
use Rattle.law_structures.specs.lent_structures.WriteBack.{Received, Into, IsReceived, CanBeWritten, parts_back}
use Rattle.law_structures.proofs.lemmas.lent_structures.WrittenBack.{all_is_written, write_back_is_told}
use Rattle.law_structures.proofs.lemmas.lent_structures.Found.{back_beside, back_element, back_head}
use Rattle.law_structures.specs.lent_structures.Sound.{LeadsOn, element_pages, buffer_name, HasBuffer, IsReady, IsSoundElement, IsWorking, IsSoundQueue}
use Rattle.law_structures.specs.lent_structures.Alters.{Alters}
use Rattle.law_structures.proofs.lemmas.lent_structures.Members.{leads_still, pointer_leads}
use Rattle.law_ring.specs.Hand.{Copy, copied_queue}
use Rattle.law_ring.specs.Effects.{bytes_in, buffer_of, received_into}
use Rattle.law_frames.specs.Met.{Kind, IsMetQueue}
use Rattle.law_frames.specs.FrameHand.{QueueSettlement, settled_in}
use Rattle.law_frames.specs.Frame.{IsQueueSettled}
use Rattle.law_frames.specs.FrameEffects.{queue_written}
use Rattle.law_frames.specs.Visits.{IsQueueVisit, back_of, IsWrittenBack}
use Rattle.law_frames.proofs.QueueBacks.{settled_facts, written_facts, settled_range, back_alters}
use Rattle.law_frames.proofs.Taking.{sound_there, met_after}

-- ---- the queue head that is written

-- the parts after its write-back
abbrev all_parts : StructureSets → Copy → QueueSettlement → Received → Qtd → StructureSets
all_parts parts c z r t = parts_back parts c.at c.at c.queue (settled_in c z) (moved_by z.outcome) z.got r t

place_moved : (c : Copy) (z : QueueSettlement) → buffer_place c.queue + moved_by z.outcome < 20480 → buffer_place (queue_written c z) ≡ buffer_place c.queue + moved_by z.outcome
unfolding moved settled_queue
place_moved c z within = omega (arith, within)

-- the copy that goes on, as it is moved
pub copy_written : (c : Copy) (z : QueueSettlement) → moved (settled_in c z) (moved_by z.outcome) ≡ copied_queue (record c { queue = queue_written c z })
unfolding moved settled_queue
copy_written c z = refl

pub received_same : (c : Copy) (z : QueueSettlement) (reply : Reply) → received (settled_in c z) z.outcome reply ≡ received c.queue z.outcome reply
unfolding settled_queue
received_same c z reply = refl

-- ---- the bytes received

host_leaves : (c : Copy) (z : QueueSettlement) (reply : Reply) → IsQueueSettled c.queue reply z → Leaves (host_in c.queue) z.outcome z.host
host_leaves c z reply is = is.came_to.host

moved_few : (c : Copy) (z : QueueSettlement) (reply : Reply) → IsQueueSettled c.queue reply z → (moved_by z.outcome + z.host.left ≡ c.queue.token.total) × (length z.got ≤ moved_by z.outcome)
moved_few c z reply is = let left = (host_leaves c z reply is).left in (omega (arith, left), got_few (pid_at c.queue.token.pid) z.outcome z.got is.came_to.bytes)

-- where they go
abbrev Goes : Structures → Copy → QueueSettlement → Qtd → List ℕ → Type 0
Goes part c z t got = IsReceived part (settled_in c z) z.got (received_into part c.queue t got)

goes_into : (part : Structures) (c : Copy) (z : QueueSettlement) (reply : Reply) (w : IsWorking part c.queue) → HasBuffer part w.element w.element.token.total → IsQueueSettled c.queue reply z → IsReceived part (settled_in c z) z.got (Into (element_pages w.element) w.element.offset (buffer_of part w.element) (buffer_place c.queue - w.element.offset))
goes_into part c z reply w has is =
    let f = settled_facts c z in
    let few = moved_few c z reply is in
    let place = w.place in
    let fewer = w.fewer in
    let are : buffer_of part w.element ≡ has.bytes = ap bytes_in has.here in
    let size = ap length are ∙ has.size in
    let there = f.place in
    let moved_is = few.0 in
    let got = few.1 in
    record {
      buffer = has.here ∙ ap (λ (bs : List ℕ). Some (Buffer (element_pages w.element) w.element.offset bs)) (sym are);
      pages_are = f.pages ∙ w.pages;
      place_is = omega (arith, there, place, fewer);
      fits = omega (arith, place, fewer, size, moved_is, got);
      bytes = is.came_to.are_bytes;
    }

goes : (part : Structures) (c : Copy) (z : QueueSettlement) (reply : Reply) (w : IsWorking part c.queue) → IsReady part w.element → IsQueueSettled c.queue reply z → (got : List ℕ) → z.got ≡ got → Goes part c z w.element got
goes part c z reply w ready is [] e = e
goes part c z reply w ready is (b ∷ bs) e =
    goes_into part c z reply w
    (ready.buffer (let few = moved_few c z reply is in let moved_is = few.0 in let got = few.1 in let some = ap length e in let fewer = w.fewer in omega (arith, moved_is, got, some, fewer))) is

-- ---- the place of what is left

place_within : (m : Mem) (parts : StructureSets) (c : Copy) (z : QueueSettlement) (reply : Reply) (w : IsWorking (parts c.at) c.queue) → Tells m parts → IsReady (parts c.at) w.element → IsQhInRange (copied_queue c) → IsQueueSettled c.queue reply z → (moved_by z.outcome ≡ 0) ⊎ (0 < z.host.left) → buffer_place c.queue + moved_by z.outcome < 20480
place_within m parts c z reply w tells ready range is some =
    ⊎_elim (λ (none : moved_by z.outcome ≡ 0). let few = place_few (copied_queue c) range in omega (arith, none, few))
    (λ (left : 0 < z.host.left).
    let moved_is = (moved_few c z reply is).0 in
    let fewer = w.fewer in
    let place = w.place in
    let has : HasBuffer (parts c.at) w.element w.element.token.total = ready.buffer (omega (arith, left, moved_is, fewer)) in
    let h : HoldsBuffer m (buffer_name w.element) (element_pages w.element) w.element.offset has.bytes = tells.each c.at (buffer_name w.element) (Buffer (element_pages w.element) w.element.offset has.bytes) has.here in
    let room = h.within in
    let size = has.size in
    omega (arith, left, moved_is, fewer, place, room, size)) some

-- ---- it works on, or rests

element_there : (parts : StructureSets) (c : Copy) (z : QueueSettlement) (t : Qtd) (r : Received) → z.host.active ≡ true → all_parts parts c z r t c.at c.queue.current ≡ Some (Element t)
element_there parts c z t r on =
    let x : Qh = settled_in c z in
    let active : (moved x (moved_by z.outcome)).token.active ≡ true = (written_facts c z).active ∙ on in
    ap (all_parts parts c z r t c.at) (sym (settled_facts c z).current)
    ∙ back_element parts c.at c.at c.queue x (moved_by z.outcome) z.got r t
    ∙ ap (λ (b : Bool). Some (Element (if b then t else record t { token = (moved x (moved_by z.outcome)).token }))) active

works_on : (m : Mem) (parts : StructureSets) (c : Copy) (z : QueueSettlement) (reply : Reply) (w : IsWorking (parts c.at) c.queue) (r : Received) → Tells m parts → IsReady (parts c.at) w.element → IsQhInRange (copied_queue c) → IsQueueSettled c.queue reply z → z.host.active ≡ true → IsWorking (all_parts parts c z r w.element c.at) (queue_written c z)
works_on m parts c z reply w r tells ready range is on =
    let v = written_facts c z in
    let moved_is = (moved_few c z reply is).0 in
    let place = w.place in
    let fewer = w.fewer in
    let total = v.total in
    let there = place_moved c z (place_within m parts c z reply w tells ready range is ((host_leaves c z reply is).some_left on)) in
    record {
      element = w.element;
      here = ap (all_parts parts c z r w.element c.at) v.current ∙ element_there parts c z w.element r on;
      published = w.published;
      goes_on = v.halted ∙ (host_leaves c z reply is).goes_on w.goes_on on;
      pid = v.pid ∙ w.pid;
      pages = v.pages ∙ w.pages;
      next = v.next ∙ w.next;
      alternate = v.alternate ∙ w.alternate;
      fewer = omega (arith, total, moved_is, fewer);
      place = omega (arith, there, total, moved_is, place);
    }

sound_on : (m : Mem) (parts : StructureSets) (c : Copy) (z : QueueSettlement) (reply : Reply) (w : IsWorking (parts c.at) c.queue) (r : Received) → Tells m parts → IsReady (parts c.at) w.element → IsQhInRange (copied_queue c) → IsQueueSettled c.queue reply z → IsSoundElement (parts c.at) w.element → Alters (parts c.at) (all_parts parts c z r w.element c.at) → IsSoundQueue (all_parts parts c z r w.element c.at) (queue_written c z)
sound_on m parts c z reply w r tells ready range is sound alters =
    let v = written_facts c z in
    let now : Structures = all_parts parts c z r w.element c.at in
    record {
      rest = λ off idle.
          pointer_leads now (queue_written c z) (not ((queue_written c z).token.total == 0) && not (queue_written c z).alternate.t)
          (subst (λ (l : ShortLink). LeadsOn now (qtd_link_of l)) (sym (v.next ∙ w.next)) (leads_still (parts c.at) now (qtd_link_of w.element.next) alters sound.next))
          (subst (λ (l : ShortLink). LeadsOn now (qtd_link_of l)) (sym (v.alternate ∙ w.alternate)) (leads_still (parts c.at) now (qtd_link_of w.element.alternate) alters sound.alternate));
      work = λ on. works_on m parts c z reply w r tells ready range is (sym v.active ∙ on);
    }

-- ---- the whole

-- what is known of the copy and its qTD
record IsReadyHere (parts : StructureSets) (c : Copy) (z : QueueSettlement) : Type 0 where
  works : IsWorking (parts c.at) c.queue
  element_sound : IsSoundElement (parts c.at) works.element
  ready : IsReady (parts c.at) works.element
  can : CanBeWritten parts c.at c.at c.queue (settled_in c z) z.got (received_into (parts c.at) c.queue works.element z.got) works.element

ready_here : (met : ℕ → Option Kind) (m : Mem) (parts : StructureSets) (c : Copy) (z : QueueSettlement) (reply : Reply) → IsQueueVisit met m parts c → IsQueueSettled c.queue reply z → IsReadyHere parts c z
ready_here met m parts c z reply k is =
    let w : IsWorking (parts c.at) c.queue = (sound_there met m parts c k).work is.came_to.works in
    let element_sound : IsSoundElement (parts c.at) w.element = k.met_is.part_is.elements c.queue.current w.element w.here in
    let ready : IsReady (parts c.at) w.element = element_sound.work w.published in
    let g : Goes (parts c.at) c z w.element z.got = goes (parts c.at) c z reply w ready is z.got refl in
    record {
      works = w;
      element_sound = element_sound;
      ready = ready;
      can = record {
        copy = record { head = k.copied.here; range = settled_range c z reply k.copied.range is; front = (settled_facts c z).front };
        element = ap (parts c.at) (settled_facts c z).current ∙ w.here;
        received = g;
      };
    }

abbrev into_of : (parts : StructureSets) (c : Copy) (z : QueueSettlement) → IsReadyHere parts c z → Received
into_of parts c z h = received_into (parts c.at) c.queue h.works.element z.got

abbrev now_of : (parts : StructureSets) (c : Copy) (z : QueueSettlement) → IsReadyHere parts c z → StructureSets
now_of parts c z h = all_parts parts c z (into_of parts c z h) h.works.element

head_there : (parts : StructureSets) (c : Copy) (z : QueueSettlement) (h : IsReadyHere parts c z) → now_of parts c z h c.at c.at ≡ Some (QueueHead (queue_written c z))
head_there parts c z h = back_head parts c.at c.at c.queue (settled_in c z) (moved_by z.outcome) z.got (into_of parts c z h) h.works.element h.can

written_met : (met : ℕ → Option Kind) (m : Mem) (parts : StructureSets) (c : Copy) (z : QueueSettlement) (reply : Reply) → IsQueueVisit met m parts c → IsQueueSettled c.queue reply z → (h : IsReadyHere parts c z) → IsMetQueue met c.at (now_of parts c z h c.at)
written_met met m parts c z reply k is h =
    let alters : Alters (parts c.at) (now_of parts c z h c.at) = back_alters parts c.at c.queue (settled_in c z) (moved_by z.outcome) z.got (into_of parts c z h) h.works.element h.can in
    met_after met m parts c (now_of parts c z h c.at) (queue_written c z) k alters (head_there parts c z h) (written_facts c z).link
    (sound_on m parts c z reply h.works (into_of parts c z h) k.tells h.ready k.copied.range is h.element_sound alters)

written_visit : (met : ℕ → Option Kind) (m : Mem) (parts : StructureSets) (c : Copy) (z : QueueSettlement) (reply : Reply) → IsQueueVisit met m parts c → IsQueueSettled c.queue reply z → (h : IsReadyHere parts c z) → IsQueueVisit met (back_of c z m).memory (now_of parts c z h) (record c { queue = queue_written c z })
written_visit met m parts c z reply k is h = record {
  tells = write_back_is_told m parts c.at c.at c.queue (settled_in c z) z.outcome z.got (into_of parts c z h) h.works.element k.tells h.can;
  met_is = written_met met m parts c z reply k is h;
  copied = record {
    on = k.copied.on;
    here = head_there parts c z h;
    link = k.copied.link;
    range = subst IsQhInRange (copy_written c z) (moved_in_range (settled_in c z) (moved_by z.outcome) (settled_range c z reply k.copied.range is));
  };
}

pub write_back_keeps_visit : (met : ℕ → Option Kind) (m : Mem) (parts : StructureSets) (c : Copy) (z : QueueSettlement) (reply : Reply) → IsQueueVisit met m parts c → IsQueueSettled c.queue reply z → IsWrittenBack met m parts c z
write_back_keeps_visit met m parts c z reply k is =
    let h : IsReadyHere parts c z = ready_here met m parts c z reply k is in
    record {
      now = now_of parts c z h;
      whole = all_is_written m parts c.at c.at c.queue (settled_in c z) z.outcome z.got (into_of parts c z h) h.works.element k.tells h.can;
      visit = written_visit met m parts c z reply k is h;
      only = λ n differs. back_beside parts c.at c.at c.queue (settled_in c z) (moved_by z.outcome) z.got (into_of parts c z h) h.works.element n differs;
      writes = λ w hand made from. record { copy = c; settled = z; made = made; from = from; element = h.works.element; here = h.works.here; received_is = h.can.received; now_is = refl; later_is = refl };
    }
