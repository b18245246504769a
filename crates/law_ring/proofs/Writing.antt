-- The transaction in hand is written back: the bytes received into the buffer, the overlay, and where the qTD ended its token.
use Rattle.std.proofs.Common.{◌≡◌, ◌≢◌, ℕ, ◌+◌, ◌-◌, ◌<◌, ◌≤◌, Bool, true, not, ◌&&◌, ◌==◌, if◌then◌else◌, List, [], ◌∷◌, length, take, Option, Some, None, ap, refl, sym, subst, ◌∙◌, ⊎_elim, arith}
use Rattle.std.specs.Prelude.{◌⊎◌}
use Rattle.law_ring.proofs.Common.{ended_after, received_beside, received_alters, got_few}
use Rattle.law_structures.proofs.Common.{place_few}
use Rattle.usb_base.specs.declared.packets.Ask.{Ask}
use Rattle.usb_base.specs.declared.packets.Reply.{Reply}
use Rattle.word_mem.specs.Memory.{Mem}
use Rattle.mem_bytes.specs.Bytes.{place}
use Rattle.link_words.specs.declared.fields.LinkBits.{LinkBits}
use Rattle.link_words.specs.declared.fields.ShortLink.{ShortLink}
use Rattle.link_words.specs.Links.{link_of, qtd_link_of}
use Rattle.qh_qtd.specs.declared.qtd.Qtd.{Qtd}
use Rattle.qh_qtd.specs.declared.queue_head.Qh.{Qh}
use Rattle.qh_qtd.specs.QueueHead.{qh_words, IsQhInRange}
use Rattle.op_registers.specs.RegisterFile.{RegisterFile}
use Rattle.toggle_error.specs.declared.host.Outcome.{Outcome}
use Rattle.hc_copy.specs.declared.held.Held.{Held}
use Rattle.hc_copy.specs.Overlay.{settled_queue, pages_of, buffer_place, moved}
use Rattle.hc_copy.specs.Buffer.{Writing}
use Rattle.hc_copy.specs.Planning.{pid_at}
use Rattle.hc_copy.specs.WriteBack.{moved_by, received, written_back, raised}
use Rattle.hc_copy.proofs.Ranges.{settled_in_range}
use Rattle.async_walk.specs.declared.rows.WalkRow.TheVariants as rows
use Rattle.async_walk.specs.declared.state.Cursor.TheVariants as cursors
use Rattle.async_walk.specs.declared.state.WalkStep.{WalkStep}
use Rattle.async_walk.specs.declared.state.WalkStep.TheVariants as steps
use Rattle.async_walk.specs.Rows.{WalkPlace, step_of, Leads, passed_walk, wrote, wrote_place, wrote_step}
use Rattle.law_structures.specs.lent_structures.Structures.{QueueHead, Element, Buffer, Structures, StructureSets, put, HoldsBuffer, Tells}
use Rattle.law_structures.specs.lent_structures.Changes.{relinked}
use Rattle.law_structures.proofs.lemmas.lent_structures.Names.{put_here, put_beside, put_same, put_else}
use Rattle.law_structures.specs.lent_structures.WriteBack.{Received, Into, IsReceived, received_parts, CanBeWritten, qtd_after, parts_back}
use Rattle.law_structures.proofs.lemmas.lent_structures.WrittenBack.{head_is_no_buffer, received_else, between_element, all_is_written, write_back_is_told}
use Rattle.law_structures.specs.lent_structures.Sound.{LeadsOn, element_pages, buffer_name, HasBuffer, IsReady, IsSoundElement, IsWorking, IsSoundQueue, LeadsAmong, IsMember}
use Rattle.law_structures.specs.lent_structures.Alters.{Alters}
use Rattle.law_structures.proofs.lemmas.lent_structures.Altering.{found_queue, no_two, altered_both, a_queue_head_alters_nothing, a_token_alters_its_qtd}
use Rattle.law_structures.proofs.lemmas.lent_structures.Members.{leads_still, pointer_leads, an_altered_part_is_sound}
use Rattle.law_ring.specs.Hand.{Copy, copied_queue, Settlement, settled_queue_of, Empty, Settled}
use Rattle.claims_base.specs.Controller.{Base, base_of}
use Rattle.law_ring.specs.Ring.{IsSettled, IsRing}
use Rattle.law_ring.specs.Effects.{bytes_in, buffer_of, received_into, Happens}
use Rattle.law_ring.specs.Effects.Effect.{writes_back}
use Rattle.law_ring.proofs.Ringing.{members_after}

-- ---- the copy that is written

-- what a transaction left of the copy
pub record IsSettledCopy (c : Copy) (z : Settlement) (x : Qh) : Type 0 where
  pub current : x.current ≡ c.queue.current
  pub place : buffer_place x ≡ buffer_place c.queue
  pub pages : pages_of x ≡ pages_of c.queue
  pub link : x.link ≡ c.link
  pub pid : x.token.pid ≡ c.queue.token.pid
  pub front : take 3 (qh_words (relinked c.queue x)) ≡ take 3 (qh_words c.queue)

pub settled_copy : (c : Copy) (z : Settlement) → IsSettledCopy c z (settled_queue_of c z)
unfolding settled_queue qh_words
settled_copy c z = record { current = refl; place = refl; pages = refl; link = refl; pid = refl; front = refl }

-- and the queue head that stands there afterwards
pub record IsWritten (c : Copy) (z : Settlement) (new : Qh) : Type 0 where
  pub link : new.link ≡ c.queue.link
  pub current : new.current ≡ c.queue.current
  pub next : new.next ≡ c.queue.next
  pub alternate : new.alternate ≡ c.queue.alternate
  pub pages : pages_of new ≡ pages_of c.queue
  pub active : new.token.active ≡ z.host.active
  pub halted : new.token.halted ≡ z.host.halted
  pub pid : new.token.pid ≡ c.queue.token.pid
  pub total : new.token.total ≡ z.host.left
  pub toggle : new.token.toggle ≡ z.host.toggle

abbrev pub queue_written : Copy → Settlement → Qh
queue_written c z = relinked c.queue (moved (settled_queue_of c z) (moved_by z.outcome))

pub is_written : (c : Copy) (z : Settlement) → IsWritten c z (queue_written c z)
unfolding moved settled_queue
is_written c z = record { link = refl; current = refl; next = refl; alternate = refl; pages = refl; active = refl; halted = refl; pid = refl; total = refl; toggle = refl }

place_moved : (c : Copy) (z : Settlement) → buffer_place c.queue + moved_by z.outcome < 20480 → buffer_place (queue_written c z) ≡ buffer_place c.queue + moved_by z.outcome
unfolding moved settled_queue
place_moved c z within = omega (arith, within)

total_few : (q : Qh) → IsQhInRange q → (q.token.total ≤ 20480) × (q.token.cerr < 4)
total_few q (link, (chars, (caps, (current, (next, (alternate, ((total, (page, (errors, pid))), rest))))))) = (total, errors)

pub settled_range : (c : Copy) (z : Settlement) (reply : Reply) → IsQhInRange (copied_queue c) → IsSettled c.queue reply z → IsQhInRange (settled_queue_of c z)
settled_range c z reply range is =
    let few = total_few (copied_queue c) range in
    let left = is.host.left in
    let errors = is.host.errors in
    let total = few.0 in
    let count = few.1 in
    settled_in_range z.host (copied_queue c) range (omega (arith, errors, count)) (omega (arith, left, total))

received_same : (c : Copy) (z : Settlement) (reply : Reply) → received (settled_queue_of c z) z.outcome reply ≡ received c.queue z.outcome reply
unfolding settled_queue
received_same c z reply = refl

-- ---- the bytes received

moved_few : (c : Copy) (z : Settlement) (reply : Reply) → IsSettled c.queue reply z → (moved_by z.outcome + z.host.left ≡ c.queue.token.total) × (length z.got ≤ moved_by z.outcome)
moved_few c z reply is = let left = is.host.left in (omega (arith, left), got_few (pid_at c.queue.token.pid) z.outcome z.got is.bytes)

-- where they go
abbrev Goes : Structures → Copy → Settlement → Qtd → List ℕ → Type 0
Goes part c z t got = IsReceived part (settled_queue_of c z) z.got (received_into part c.queue t got)

goes_into : (part : Structures) (c : Copy) (z : Settlement) (reply : Reply) (w : IsWorking part c.queue) → HasBuffer part w.element w.element.token.total → IsSettled c.queue reply z → IsReceived part (settled_queue_of c z) z.got (Into (element_pages w.element) w.element.offset (buffer_of part w.element) (buffer_place c.queue - w.element.offset))
goes_into part c z reply w has is =
    let f = settled_copy c z in
    let few = moved_few c z reply is in
    let place = w.place in
    let fewer = w.fewer in
    let are : buffer_of part w.element ≡ has.bytes = ap bytes_in has.here in
    let size = ap length are ∙ has.size in
    let there = f.place in
    let moved_is = few.0 in
    let got = few.1 in
    record {
      buffer = has.here ∙ ap (λ (bs : List ℕ). Some (Buffer (element_pages w.element) w.element.offset bs)) (sym are);
      pages_are = f.pages ∙ w.pages;
      place_is = omega (arith, there, place, fewer);
      fits = omega (arith, place, fewer, size, moved_is, got);
      bytes = is.are_bytes;
    }

goes : (part : Structures) (c : Copy) (z : Settlement) (reply : Reply) (w : IsWorking part c.queue) → IsReady part w.element → IsSettled c.queue reply z → (got : List ℕ) → z.got ≡ got → Goes part c z w.element got
goes part c z reply w ready is [] e = e
goes part c z reply w ready is (b ∷ bs) e =
    goes_into part c z reply w
    (ready.buffer (let few = moved_few c z reply is in let moved_is = few.0 in let got = few.1 in let some = ap length e in let fewer = w.fewer in omega (arith, moved_is, got, some, fewer))) is

-- ---- the place of what is left

place_within : (m : Mem) (parts : StructureSets) (c : Copy) (z : Settlement) (reply : Reply) (w : IsWorking (parts c.at) c.queue) → Tells m parts → IsReady (parts c.at) w.element → IsQhInRange (copied_queue c) → IsSettled c.queue reply z → (moved_by z.outcome ≡ 0) ⊎ (0 < z.host.left) → buffer_place c.queue + moved_by z.outcome < 20480
place_within m parts c z reply w tells ready range is some =
    ⊎_elim (λ (none : moved_by z.outcome ≡ 0). let few = place_few (copied_queue c) range in omega (arith, none, few))
    (λ (left : 0 < z.host.left).
    let moved_is = (moved_few c z reply is).0 in
    let fewer = w.fewer in
    let place = w.place in
    let has : HasBuffer (parts c.at) w.element w.element.token.total = ready.buffer (omega (arith, left, moved_is, fewer)) in
    let h : HoldsBuffer m (buffer_name w.element) (element_pages w.element) w.element.offset has.bytes = tells.each c.at (buffer_name w.element) (Buffer (element_pages w.element) w.element.offset has.bytes) has.here in
    let room = h.within in
    let size = has.size in
    omega (arith, left, moved_is, fewer, place, room, size)) some

-- ---- the parts after it

-- the parts once the overlay is written, and the qTD's token isn't yet
abbrev head_parts : StructureSets → Copy → Settlement → Received → StructureSets
head_parts parts c z r = put (received_parts parts c.at z.got r) c.at c.at (QueueHead (queue_written c z))

abbrev pub all_parts : StructureSets → Copy → Settlement → Received → Qtd → StructureSets
all_parts parts c z r t = parts_back parts c.at c.at c.queue (settled_queue_of c z) (moved_by z.outcome) z.got r t

-- the qTD as it then stands
abbrev pub element_written : Copy → Settlement → Qtd → Qtd
element_written c z t = qtd_after (moved (settled_queue_of c z) (moved_by z.outcome)) t

head_alters : (parts : StructureSets) (c : Copy) (z : Settlement) (t : Qtd) (r : Received) → CanBeWritten parts c.at c.at c.queue (settled_queue_of c z) z.got r t → Alters (parts c.at) (head_parts parts c z r c.at)
head_alters parts c z t r can =
    let mid : StructureSets = received_parts parts c.at z.got r in
    altered_both (parts c.at) (mid c.at) (head_parts parts c z r c.at) (received_alters parts c.at (settled_queue_of c z) z.got r can.received)
    (subst (Alters (mid c.at)) (sym (put_here mid c.at c.at (QueueHead (queue_written c z))))
    (a_queue_head_alters_nothing (mid c.at) c.at c.queue (queue_written c z)
    (received_else parts c.at (settled_queue_of c z) z.got r c.at (QueueHead c.queue) can.received can.copy.head (head_is_no_buffer c.queue))))

pub all_alters : (parts : StructureSets) (c : Copy) (z : Settlement) (t : Qtd) (r : Received) → CanBeWritten parts c.at c.at c.queue (settled_queue_of c z) z.got r t → Alters (parts c.at) (all_parts parts c z r t c.at)
all_alters parts c z t r can =
    let x : Qh = settled_queue_of c z in
    let mid : StructureSets = head_parts parts c z r in
    altered_both (parts c.at) (mid c.at) (all_parts parts c z r t c.at) (head_alters parts c z t r can)
    (subst (Alters (mid c.at)) (sym (put_here mid c.at x.current (Element (element_written c z t))))
    (a_token_alters_its_qtd (mid c.at) x.current t (element_written c z t) (between_element parts c.at c.at c.queue x (moved x (moved_by z.outcome)) z.got r t can)
    (ended_after (moved x (moved_by z.outcome)) t (moved x (moved_by z.outcome)).token.active refl)))

pub all_beside : (parts : StructureSets) (c : Copy) (z : Settlement) (t : Qtd) (r : Received) (n : ℕ) → n ≢ c.at → all_parts parts c z r t n ≡ parts n
all_beside parts c z t r n differs =
    let x : Qh = settled_queue_of c z in
    put_beside (head_parts parts c z r) c.at x.current (Element (element_written c z t)) n differs
    ∙ put_beside (received_parts parts c.at z.got r) c.at c.at (QueueHead (queue_written c z)) n differs ∙ received_beside parts c.at z.got r n differs

-- the current qTD doesn't stand where the queue head does
current_apart : (parts : StructureSets) (c : Copy) (z : Settlement) (t : Qtd) (r : Received) → CanBeWritten parts c.at c.at c.queue (settled_queue_of c z) z.got r t → c.at ≢ (settled_queue_of c z).current
current_apart parts c z t r can = no_two (parts c.at) c.at (settled_queue_of c z).current (QueueHead c.queue) (Element t) can.copy.head can.element (λ e. cc)

pub head_there : (parts : StructureSets) (c : Copy) (z : Settlement) (t : Qtd) (r : Received) → CanBeWritten parts c.at c.at c.queue (settled_queue_of c z) z.got r t → all_parts parts c z r t c.at c.at ≡ Some (QueueHead (queue_written c z))
head_there parts c z t r can =
    put_else (head_parts parts c z r) c.at (settled_queue_of c z).current (Element (element_written c z t)) c.at (current_apart parts c z t r can)
    ∙ put_same (received_parts parts c.at z.got r) c.at c.at (QueueHead (queue_written c z))

element_there : (parts : StructureSets) (c : Copy) (z : Settlement) (t : Qtd) (r : Received) → z.host.active ≡ true → all_parts parts c z r t c.at c.queue.current ≡ Some (Element t)
element_there parts c z t r on =
    let x : Qh = settled_queue_of c z in
    let active : (moved x (moved_by z.outcome)).token.active ≡ true = (is_written c z).active ∙ on in
    ap (all_parts parts c z r t c.at) (sym (settled_copy c z).current)
    ∙ put_same (head_parts parts c z r) c.at x.current (Element (element_written c z t))
    ∙ ap (λ (b : Bool). Some (Element (if b then t else record t { token = (moved x (moved_by z.outcome)).token }))) active

-- ---- it works on, or rests

works_on : (m : Mem) (parts : StructureSets) (c : Copy) (z : Settlement) (reply : Reply) (w : IsWorking (parts c.at) c.queue) (r : Received) → Tells m parts → IsReady (parts c.at) w.element → IsQhInRange (copied_queue c) → IsSettled c.queue reply z → z.host.active ≡ true → IsWorking (all_parts parts c z r w.element c.at) (queue_written c z)
works_on m parts c z reply w r tells ready range is on =
    let v = is_written c z in
    let moved_is = (moved_few c z reply is).0 in
    let place = w.place in
    let fewer = w.fewer in
    let total = v.total in
    let there = place_moved c z (place_within m parts c z reply w tells ready range is (is.host.some_left on)) in
    record {
      element = w.element;
      here = ap (all_parts parts c z r w.element c.at) v.current ∙ element_there parts c z w.element r on;
      published = w.published;
      goes_on = v.halted ∙ is.host.goes_on w.goes_on on;
      pid = v.pid ∙ w.pid;
      pages = v.pages ∙ w.pages;
      next = v.next ∙ w.next;
      alternate = v.alternate ∙ w.alternate;
      fewer = omega (arith, total, moved_is, fewer);
      place = omega (arith, there, total, moved_is, place);
    }

sound_on : (m : Mem) (parts : StructureSets) (c : Copy) (z : Settlement) (reply : Reply) (w : IsWorking (parts c.at) c.queue) (r : Received) → Tells m parts → IsReady (parts c.at) w.element → IsQhInRange (copied_queue c) → IsSettled c.queue reply z → IsSoundElement (parts c.at) w.element → Alters (parts c.at) (all_parts parts c z r w.element c.at) → IsSoundQueue (all_parts parts c z r w.element c.at) (queue_written c z)
sound_on m parts c z reply w r tells ready range is sound alters =
    let v = is_written c z in
    let now : Structures = all_parts parts c z r w.element c.at in
    record {
      rest = λ off idle.
          pointer_leads now (queue_written c z) (not ((queue_written c z).token.total == 0) && not (queue_written c z).alternate.t)
          (subst (λ (l : ShortLink). LeadsOn now (qtd_link_of l)) (sym (v.next ∙ w.next)) (leads_still (parts c.at) now (qtd_link_of w.element.next) alters sound.next))
          (subst (λ (l : ShortLink). LeadsOn now (qtd_link_of l)) (sym (v.alternate ∙ w.alternate)) (leads_still (parts c.at) now (qtd_link_of w.element.alternate) alters sound.alternate));
      work = λ on. works_on m parts c z reply w r tells ready range is (sym v.active ∙ on);
    }

module _ {W : Type 0} (transacts : W → Ask → List ℕ → Reply → W → Type 0) (base : Base) (member : ℕ → Bool) (parts : StructureSets) (wire after : W) where
  abbrev settled_held : Copy → Settlement → Held
  settled_held c z = record { at = c.at; queue_head = settled_queue_of c z; settled = Some z.outcome }

  -- what is known of the copy and its qTD
  record IsReadyHere (s : WalkPlace) (c : Copy) (z : Settlement) : Type 0 where
    works : IsWorking (parts c.at) c.queue
    element_sound : IsSoundElement (parts c.at) works.element
    ready : IsReady (parts c.at) works.element
    can : CanBeWritten parts c.at c.at c.queue (settled_queue_of c z) z.got (received_into (parts c.at) c.queue works.element z.got) works.element

  ready_here : (s : WalkPlace) (c : Copy) (z : Settlement) → IsRing base member parts (Settled c z) s → IsReadyHere s c z
  ready_here s c z k =
      let m : IsMember member c.at (parts c.at) = k.members c.at k.in_hand.0.on in
      let same : m.queue ≡ c.queue = found_queue (parts c.at c.at) m.queue c.queue m.here k.in_hand.0.here in
      let sound : IsSoundQueue (parts c.at) c.queue = subst (IsSoundQueue (parts c.at)) same m.sound in
      let w : IsWorking (parts c.at) c.queue = sound.work k.in_hand.1.works in
      let element_sound : IsSoundElement (parts c.at) w.element = m.elements c.queue.current w.element w.here in
      let ready : IsReady (parts c.at) w.element = element_sound.work w.published in
      let g : Goes (parts c.at) c z w.element z.got = goes (parts c.at) c z s.walk.reply w ready k.in_hand.1 z.got refl in
      record {
        works = w;
        element_sound = element_sound;
        ready = ready;
        can = record {
          copy = record { head = k.in_hand.0.here; range = settled_range c z s.walk.reply k.in_hand.0.range k.in_hand.1; front = (settled_copy c z).front };
          element = ap (parts c.at) (settled_copy c z).current ∙ w.here;
          received = g;
        };
      }

  abbrev written_memory : WalkPlace → Copy → Settlement → Mem
  written_memory s c z = (written_back c.at (settled_queue_of c z) z.outcome z.got s.memory).memory

  abbrev written_place : WalkPlace → Copy → Settlement → WalkPlace
  written_place s c z = record {
    walk = record s.walk { cursor = cursors.At (link_of c.link); held = None };
    registers = raised (settled_queue_of c z) z.outcome s.registers;
    memory = written_memory s c z;
  }

  -- what is written is what was received
  got_is : (s : WalkPlace) (c : Copy) (z : Settlement) → IsRing base member parts (Settled c z) s → received (settled_queue_of c z) z.outcome s.walk.reply ≡ z.got
  got_is s c z k = received_same c z s.walk.reply ∙ sym k.in_hand.1.got

  wrote_is : (s : WalkPlace) (c : Copy) (z : Settlement) → IsRing base member parts (Settled c z) s → IsReadyHere s c z → wrote s s.walk.held ≡ written_place s c z
  wrote_is s c z k h =
      let x : Qh = settled_queue_of c z in
      ap (wrote s) k.held
      ∙ ap (λ (got : List ℕ). let w : Writing = written_back c.at x z.outcome got s.memory in wrote_place w.all x z.outcome (record s { memory = w.memory })) (got_is s c z k)
      ∙ ap (λ (b : Bool). wrote_place b x z.outcome (record s { memory = written_memory s c z })) (all_is_written s.memory parts c.at c.at c.queue x z.outcome z.got (received_into (parts c.at) c.queue h.works.element z.got) h.works.element k.tells h.can)
      ∙ ap (λ (o : Option Held). record { walk = passed_walk s.walk o; registers = raised x z.outcome s.registers; memory = written_memory s c z }) k.held
      ∙ ap (λ (l : LinkBits). record { walk = record s.walk { cursor = cursors.At (link_of l); held = None }; registers = raised x z.outcome s.registers; memory = written_memory s c z }) (settled_copy c z).link

  wrote_kind : (s : WalkPlace) (c : Copy) (z : Settlement) → IsRing base member parts (Settled c z) s → IsReadyHere s c z → wrote_step s s.walk.held ≡ steps.WriteBack
  wrote_kind s c z k h =
      let x : Qh = settled_queue_of c z in
      ap (wrote_step s) k.held
      ∙ ap (λ (got : List ℕ). if (written_back c.at x z.outcome got s.memory).all then steps.WriteBack else steps.Fault) (got_is s c z k)
      ∙ ap (λ (b : Bool). if b then steps.WriteBack else steps.Fault) (all_is_written s.memory parts c.at c.at c.queue x z.outcome z.got (received_into (parts c.at) c.queue h.works.element z.got) h.works.element k.tells h.can)

  raised_base : (q : Qh) (o : Outcome) (r : RegisterFile) → base_of (raised q o r) ≡ base_of r
  unfolding raised
  raised_base q o r = refl

  written_member : (s : WalkPlace) (c : Copy) (z : Settlement) → IsRing base member parts (Settled c z) s → (h : IsReadyHere s c z) → IsMember member c.at (all_parts parts c z (received_into (parts c.at) c.queue h.works.element z.got) h.works.element c.at)
  written_member s c z k h =
      let m : IsMember member c.at (parts c.at) = k.members c.at k.in_hand.0.on in
      let same : m.queue ≡ c.queue = found_queue (parts c.at c.at) m.queue c.queue m.here k.in_hand.0.here in
      let alters : Alters (parts c.at) (all_parts parts c z (received_into (parts c.at) c.queue h.works.element z.got) h.works.element c.at) = all_alters parts c z h.works.element (received_into (parts c.at) c.queue h.works.element z.got) h.can in
      an_altered_part_is_sound member c.at (parts c.at) (all_parts parts c z (received_into (parts c.at) c.queue h.works.element z.got) h.works.element c.at) (queue_written c z) m alters (head_there parts c z h.works.element (received_into (parts c.at) c.queue h.works.element z.got) h.can)
      (subst (LeadsAmong member) (sym (is_written c z).link) (subst (λ (q : Qh). LeadsAmong member q.link) same m.link))
      (sound_on s.memory parts c z s.walk.reply h.works (received_into (parts c.at) c.queue h.works.element z.got) k.tells h.ready k.in_hand.0.range k.in_hand.1 h.element_sound alters)

  written_ring : (s : WalkPlace) (c : Copy) (z : Settlement) → IsRing base member parts (Settled c z) s → (h : IsReadyHere s c z) → IsRing base member (all_parts parts c z (received_into (parts c.at) c.queue h.works.element z.got) h.works.element) Empty (written_place s c z)
  written_ring s c z k h = record {
    tells = write_back_is_told s.memory parts c.at c.at c.queue (settled_queue_of c z) z.outcome z.got (received_into (parts c.at) c.queue h.works.element z.got) h.works.element k.tells h.can;
    members = members_after member parts (all_parts parts c z (received_into (parts c.at) c.queue h.works.element z.got) h.works.element) c.at (λ n differs. all_beside parts c z h.works.element (received_into (parts c.at) c.queue h.works.element z.got) n differs) (written_member s c z k h) k.members;
    registers = raised_base (settled_queue_of c z) z.outcome s.registers ∙ k.registers;
    start = k.start;
    cursor = record { to = k.in_hand.0.link.to; leads = k.in_hand.0.link.leads; on = k.in_hand.0.link.on };
    held = refl;
    in_hand = tt;
  }

  pub write_event : (s new : WalkPlace) (c : Copy) (z : Settlement) → IsRing base member parts (Settled c z) s → Leads transacts rows.WriteBack s wire new after → Happens transacts base member parts (Settled c z) wire after new (step_of rows.WriteBack s)
  write_event s new c z k lead =
      let h : IsReadyHere s c z = ready_here s c z k in
      subst (λ (step : WalkStep). Happens transacts base member parts (Settled c z) wire after new step) (sym (wrote_kind s c z k h))
      (record {
        now = all_parts parts c z (received_into (parts c.at) c.queue h.works.element z.got) h.works.element;
        later = Empty;
        ring = subst (IsRing base member (all_parts parts c z (received_into (parts c.at) c.queue h.works.element z.got) h.works.element) Empty) (sym (lead.0 ∙ wrote_is s c z k h)) (written_ring s c z k h);
        effect = writes_back (record { copy = c; settled = z; in_hand = refl; element = h.works.element; here = h.works.here; received_is = h.can.received; now_is = refl; nothing = refl }) lead.1;
      })
