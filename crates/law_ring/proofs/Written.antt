-- A write-back: words tell what the copy in hand told.
use Rattle.std.proofs.Common.{◌≡◌, ◌≢◌, ℕ, ◌-◌, Bool, true, false, ◌&&◌, ◌==◌, if◌then◌else◌, List, [], ◌∷◌, length, take, Some, ap, refl, sym, subst, ◌∙◌, ⊎_elim}
use Rattle.std.proofs.lemmas.Bool.{cases_eq, eq-eqb}
use Rattle.law_ring.proofs.Common.{bytes_beside_element, endpoint_kept}
use Rattle.law_common.proofs.Numbers.{other_number}
use Rattle.usb_base.specs.declared.packets.Reply.{Reply}
use Rattle.qh_qtd.specs.declared.token.Token.{Token}
use Rattle.qh_qtd.specs.declared.qtd.Qtd.{Qtd}
use Rattle.qh_qtd.specs.declared.queue_head.Qh.{Qh}
use Rattle.qh_qtd.specs.QueueHead.{IsQhInRange}
use Rattle.hc_copy.specs.Overlay.{settled_queue, buffer_place, moved}
use Rattle.hc_copy.specs.WriteBack.{moved_by}
use Rattle.law_structures.specs.lent_structures.Structures.{QueueHead, Element, Buffer, Structures, StructureSets, put}
use Rattle.law_structures.specs.lent_structures.Changes.{relinked, overwritten}
use Rattle.law_structures.proofs.lemmas.lent_structures.Names.{put_here, put_same, put_else}
use Rattle.law_structures.proofs.lemmas.lent_structures.Storing.{length-overwritten}
use Rattle.law_structures.specs.lent_structures.WriteBack.{Received, IsReceived, received_parts, CanBeWritten, qtd_after, parts_back}
use Rattle.law_structures.proofs.lemmas.lent_structures.WrittenBack.{received_else, between_element, head_is_no_buffer}
use Rattle.law_structures.proofs.lemmas.lent_structures.Found.{back_beside, back_element, back_head, back_other_element}
use Rattle.law_structures.specs.lent_structures.Sound.{element_pages, buffer_name, AreOwn}
use Rattle.law_structures.proofs.lemmas.lent_structures.Altering.{found_queue, found_element}
use Rattle.law_ring.specs.Hand.{Copy, Settlement, settled_queue_of, Hand, Settled}
use Rattle.law_ring.specs.Ring.{IsCopied, IsSettled}
use Rattle.law_ring.specs.Effects.{bytes_in, buffer_of, received_into, WritesBack}
use Rattle.law_ring.proofs.Writing.{IsSettledCopy, settled_copy, settled_range, IsWritten, is_written, queue_written}
use Rattle.law_ring.specs.Told.{works_on, left_of, told_bytes, settled_bytes, hand_bytes, Told, hand_toggle, HasToggle, Endpoint, endpoint_of, HasEndpoint, SameTold}
use Rattle.law_ring.proofs.Keeping.{IsUnsettled, empty_unsettled, unsettled_bytes, unsettled_toggle, bytes_kept, toggle_kept, bytes_beside_head}
use Rattle.law_ring.proofs.Growing.{overwritten_by_none, works_here, works_not, hand_here, hand_not}

-- ---- bytes of a part

-- the buffer that received them has them, and no other one does
into_here : (parts : StructureSets) (n : ℕ) (q : Qh) (t : Qtd) (got : List ℕ) → bytes_in (received_parts parts n got (received_into (parts n) q t got) n (buffer_name t)) ≡ overwritten (buffer_of (parts n) t) (buffer_place q - t.offset) got
into_here parts n q t [] = sym (overwritten_by_none (buffer_of (parts n) t) (buffer_place q - t.offset))
into_here parts n q t (b ∷ bs) = ap bytes_in (put_same parts n (buffer_name t) (Buffer (element_pages t) t.offset (overwritten (buffer_of (parts n) t) (buffer_place q - t.offset) (b ∷ bs))))

into_beside : (parts : StructureSets) (n : ℕ) (q : Qh) (t : Qtd) (got : List ℕ) (a : ℕ) → a ≢ buffer_name t → bytes_in (received_parts parts n got (received_into (parts n) q t got) n a) ≡ bytes_in (parts n a)
into_beside parts n q t [] a differs = refl
into_beside parts n q t (b ∷ bs) a differs = ap bytes_in (put_else parts n (buffer_name t) (Buffer (element_pages t) t.offset (overwritten (buffer_of (parts n) t) (buffer_place q - t.offset) (b ∷ bs))) a differs)

-- as many as before
into_length : (part : Structures) (q x : Qh) (t : Qtd) (got : List ℕ) → IsReceived part x got (received_into part q t got) → length (overwritten (buffer_of part t) (buffer_place q - t.offset) got) ≡ length (buffer_of part t)
into_length part q x t [] is = ap length (overwritten_by_none (buffer_of part t) (buffer_place q - t.offset))
into_length part q x t (b ∷ bs) is = length-overwritten (buffer_of part t) (buffer_place q - t.offset) (b ∷ bs) is.fits

-- another qTD has another buffer
into_other : (parts : StructureSets) (n : ℕ) (q x : Qh) (t : Qtd) (got : List ℕ) (a e : ℕ) (u : Qtd) → AreOwn (parts n) → IsReceived (parts n) x got (received_into (parts n) q t got) → parts n a ≡ Some (Element t) → parts n e ≡ Some (Element u) → e ≢ a → bytes_in (received_parts parts n got (received_into (parts n) q t got) n (buffer_name u)) ≡ bytes_in (parts n (buffer_name u))
into_other parts n q x t [] a e u own is current other differs = refl
into_other parts n q x t (b ∷ bs) a e u own is current other differs =
    into_beside parts n q t (b ∷ bs) (buffer_name u) (λ same.
    differs (own e a u t (element_pages t) t.offset (buffer_of (parts n) t) other current same (ap (parts n) same ∙ is.buffer)))

-- ---- the queue head written

name_written : (x : Qh) (t : Qtd) (b : Bool) → buffer_name (if b then t else record t { token = x.token }) ≡ buffer_name t
name_written x t true = refl
name_written x t false = refl

-- what is left of it
left_written : (new x : Qh) (c : Copy) (z : Settlement) (t : Qtd) (b : Bool) → IsWritten c z new → x.token ≡ new.token → z.host.active ≡ b
    → left_of new c.queue.current (qtd_after x t) ≡ z.host.left
left_written new x c z t true v same on =
    ap (λ (b : Bool). if b && new.current == c.queue.current then new.token.total else (qtd_after x t).token.total) (v.active ∙ on)
    ∙ ap (λ (b : Bool). if b then new.token.total else (qtd_after x t).token.total) (eq-eqb new.current c.queue.current v.current) ∙ v.total
left_written new x c z t false v same off =
    ap (λ (b : Bool). if b && new.current == c.queue.current then new.token.total else (qtd_after x t).token.total) (v.active ∙ off)
    ∙ ap (λ (b : Bool). (if b then t else record t { token = x.token }).token.total)
    (ap (λ (k : Token). k.active) same ∙ v.active ∙ off) ∙ ap (λ (k : Token). k.total) same ∙ v.total

-- of another qTD the qTD counts
left_other : (new : Qh) (c : Copy) (z : Settlement) (e : ℕ) (u : Qtd) → IsWritten c z new → c.queue.current ≢ e
    → left_of new e u ≡ left_of c.queue e u
left_other new c z e u v differs =
    ap (λ (b : Bool). if b then new.token.total else u.token.total) (works_not new e (λ same. differs (sym v.current ∙ same)))
    ∙ sym (ap (λ (b : Bool). if b then c.queue.token.total else u.token.total) (works_not c.queue e differs))

-- ---- the write-back

-- the copy, as its transaction left it, is written back; x is its queue head
pub record WritesCopy (parts : StructureSets) (hand : Hand) (now : StructureSets) (later : Hand) (c : Copy) (z : Settlement)
    (x : Qh) : Type 0 where
  pub in_hand : hand ≡ Settled c z
  pub head : parts c.at c.at ≡ Some (QueueHead c.queue)
  pub works : c.queue.token.active ≡ true
  pub range : IsQhInRange x
  pub settled : IsSettledCopy c z x
  pub written : IsWritten c z (relinked c.queue (moved x (moved_by z.outcome)))
  pub named : endpoint_of (relinked c.queue (moved x (moved_by z.outcome))) ≡ endpoint_of c.queue
  pub element : Qtd
  pub here : parts c.at c.queue.current ≡ Some (Element element)
  pub received_is : IsReceived (parts c.at) x z.got (received_into (parts c.at) c.queue element z.got)
  pub now_is : now ≡ parts_back parts c.at c.at c.queue x (moved_by z.outcome) z.got
      (received_into (parts c.at) c.queue element z.got) element
  pub unsettled : IsUnsettled later

module _ (parts : StructureSets) (hand : Hand) (now : StructureSets) (later : Hand) (copy : Copy) (came : Settlement) (copy_queue : Qh)
    (k : WritesCopy parts hand now later copy came copy_queue) where
  abbrev owner : ℕ
  owner = copy.at

  abbrev new : Qh
  new = relinked copy.queue (moved copy_queue (moved_by came.outcome))

  abbrev into : Received
  into = received_into (parts copy.at) copy.queue k.element came.got

  abbrev back : StructureSets
  back = parts_back parts copy.at copy.at copy.queue copy_queue (moved_by came.outcome) came.got into k.element

  abbrev element_now : Qtd
  element_now = qtd_after (moved copy_queue (moved_by came.outcome)) k.element

  pub can : CanBeWritten parts copy.at copy.at copy.queue copy_queue came.got into k.element
  can = record {
    copy = record { head = k.head; range = k.range; front = k.settled.front };
    element = ap (parts copy.at) k.settled.current ∙ k.here;
    received = k.received_is;
  }

  pub beside : (n : ℕ) → n ≢ owner → now n ≡ parts n
  beside n differs = ap (λ (ps : StructureSets). ps n) k.now_is ∙ back_beside parts owner owner copy.queue copy_queue
      (moved_by came.outcome) came.got into k.element n differs

  pub head_now : now owner owner ≡ Some (QueueHead new)
  head_now = ap (λ (ps : StructureSets). ps owner owner) k.now_is ∙ back_head parts owner owner copy.queue copy_queue
      (moved_by came.outcome) came.got into k.element can

  pub current_now : now owner copy.queue.current ≡ Some (Element element_now)
  current_now =
      ap (λ (ps : StructureSets). ps owner copy.queue.current) k.now_is ∙ ap (back owner) (sym k.settled.current)
      ∙ back_element parts owner owner copy.queue copy_queue (moved_by came.outcome) came.got into k.element

  -- the bytes of any buffer are those once the received ones were put
  bytes_now : (a : ℕ) → bytes_in (now owner a) ≡ bytes_in (received_parts parts owner came.got into owner a)
  bytes_now a =
      let x : Qh = moved copy_queue (moved_by came.outcome) in
      let first : StructureSets = received_parts parts owner came.got into in
      let mid : StructureSets = put first owner owner (QueueHead (relinked copy.queue x)) in
      ap (λ (ps : StructureSets). bytes_in (ps owner a)) k.now_is
      ∙ ap (λ (part : Structures). bytes_in (part a)) (put_here mid owner copy_queue.current (Element element_now))
      ∙ bytes_beside_element (mid owner) copy_queue.current k.element element_now a
      (between_element parts owner owner copy.queue copy_queue x came.got into k.element can)
      ∙ ap (λ (part : Structures). bytes_in (part a)) (put_here first owner owner (QueueHead (relinked copy.queue x)))
      ∙ bytes_beside_head (first owner) owner copy.queue (relinked copy.queue x) a
      (received_else parts owner copy_queue came.got into owner (QueueHead copy.queue) can.received can.copy.head
      (head_is_no_buffer copy.queue))

  -- the current qTD
  current_told : (xs : List ℕ) → Told hand parts owner copy.queue.current xs → Told later now owner copy.queue.current xs
  current_told xs told =
      let q : Qh = copy.queue in
      let e : ℕ = q.current in
      let same : told.queue ≡ q = found_queue (parts owner owner) told.queue q told.head k.head in
      let element : told.qtd ≡ k.element = found_element (parts owner e) told.qtd k.element told.here k.here in
      let bs : List ℕ = buffer_of (parts owner) k.element in
      let cs : List ℕ = overwritten bs (buffer_place q - k.element.offset) came.got in
      let buffer : buffer_of (now owner) element_now ≡ cs =
      ap (λ (a : ℕ). bytes_in (now owner a)) (name_written (moved copy_queue (moved_by came.outcome)) k.element
      (moved copy_queue (moved_by came.outcome)).token.active)
      ∙ bytes_now (buffer_name k.element) ∙ into_here parts owner q k.element came.got in
      let size : length cs ≡ length bs = into_length (parts owner) q copy_queue k.element came.got k.received_is in
      record {
        queue = new;
        head = head_now;
        qtd = element_now;
        here = current_now;
        are = told.are
            ∙ ap (λ (h : Hand). hand_bytes h owner told.queue e told.qtd (buffer_of (parts owner) told.qtd)) k.in_hand
            ∙ ap (λ (x : Qh). hand_bytes (Settled copy came) owner x e told.qtd (buffer_of (parts owner) told.qtd)) same
            ∙ ap (λ (t : Qtd). hand_bytes (Settled copy came) owner q e t (buffer_of (parts owner) t)) element
            ∙ ap (λ (b : Bool). if b then settled_bytes q k.element came bs else told_bytes q e k.element bs)
            (hand_here owner owner (works_on q e) refl ∙ works_here q k.works)
            ∙ ap (λ (i : ℕ). take (i - came.host.left) cs) (sym size)
            ∙ ap (λ (i : ℕ). take (length cs - i) cs)
            (sym (left_written new (moved copy_queue (moved_by came.outcome)) copy came k.element came.host.active k.written refl refl))
            ∙ ap (λ (ys : List ℕ). told_bytes new e element_now ys) (sym buffer)
            ∙ sym (unsettled_bytes later owner new e element_now (buffer_of (now owner) element_now) k.unsettled);
      }

  -- another qTD of the same queue head
  other_told : AreOwn (parts owner) → (e : ℕ) (xs : List ℕ) → copy.queue.current ≢ e → Told hand parts owner e xs
      → Told later now owner e xs
  other_told own e xs differs told =
      let q : Qh = copy.queue in
      let same : told.queue ≡ q = found_queue (parts owner owner) told.queue q told.head k.head in
      let bs : List ℕ = buffer_of (parts owner) told.qtd in
      let current = k.settled.current in
      let buffer : buffer_of (now owner) told.qtd ≡ bs =
      bytes_now (buffer_name told.qtd) ∙ into_other parts owner q copy_queue k.element came.got q.current e told.qtd own k.received_is
      k.here told.here (λ is. differs (sym is)) in
      record {
        queue = new;
        head = head_now;
        qtd = told.qtd;
        here = ap (λ (ps : StructureSets). ps owner e) k.now_is
            ∙ back_other_element parts owner owner q copy_queue (moved_by came.outcome) came.got into k.element e told.qtd can told.here
            (λ is. differs (sym current ∙ sym is));
        are = told.are
            ∙ ap (λ (h : Hand). hand_bytes h owner told.queue e told.qtd bs) k.in_hand
            ∙ ap (λ (x : Qh). hand_bytes (Settled copy came) owner x e told.qtd bs) same
            ∙ ap (λ (b : Bool). if b then settled_bytes q told.qtd came bs else told_bytes q e told.qtd bs)
            (hand_here owner owner (works_on q e) refl ∙ works_not q e differs)
            ∙ ap (λ (i : ℕ). take (length bs - i) bs) (sym (left_other new copy came e told.qtd k.written differs))
            ∙ ap (λ (ys : List ℕ). told_bytes new e told.qtd ys) (sym buffer)
            ∙ sym (unsettled_bytes later owner new e told.qtd (buffer_of (now owner) told.qtd) k.unsettled);
      }

  -- the hand tells nothing of other queue heads
  beside_bytes : (n : ℕ) → n ≢ owner → (e : ℕ) (q : Qh) (t : Qtd) (bs : List ℕ) → hand_bytes later n q e t bs ≡ hand_bytes hand n q e t bs
  beside_bytes n differs e q t bs =
      unsettled_bytes later n q e t bs k.unsettled
      ∙ sym (ap (λ (h : Hand). hand_bytes h n q e t bs) k.in_hand ∙ ap
      (λ (b : Bool). if b then settled_bytes q t came bs else told_bytes q e t bs)
      (hand_not owner n (works_on q e) (λ is. differs (sym is))))

  beside_toggle : (n : ℕ) → n ≢ owner → (q : Qh) → hand_toggle later n q ≡ hand_toggle hand n q
  beside_toggle n differs q =
      unsettled_toggle later n q k.unsettled
      ∙ sym (ap (λ (h : Hand). hand_toggle h n q) k.in_hand ∙ ap (λ (b : Bool). if b then came.host.toggle else q.token.toggle)
      (other_number owner n (λ is. differs (sym is))))

  owner_toggle : (b : Bool) → HasToggle hand parts owner b → HasToggle later now owner b
  owner_toggle b has =
      let same : has.queue ≡ copy.queue = found_queue (parts owner owner) has.queue copy.queue has.head k.head in
      record {
        queue = new;
        head = head_now;
        own = ap (λ (x : Endpoint). x.dtc) k.named ∙ ap (λ (x : Qh). x.dtc) (sym same) ∙ has.own;
        is = has.is ∙ ap (λ (h : Hand). hand_toggle h owner has.queue) k.in_hand
            ∙ ap (λ (x : Bool). if x then came.host.toggle else has.queue.token.toggle) (eq-eqb owner owner refl)
            ∙ sym k.written.toggle ∙ sym (unsettled_toggle later owner new k.unsettled);
      }

  owner_endpoint : (x : Endpoint) → HasEndpoint parts owner x → HasEndpoint now owner x
  owner_endpoint x has =
      let same : has.queue ≡ copy.queue = found_queue (parts owner owner) has.queue copy.queue has.head k.head in
      record {
        queue = new;
        head = head_now;
        is = has.is ∙ ap endpoint_of same ∙ sym k.named;
      }

  pub write_tells_the_same : AreOwn (parts copy.at) → SameTold hand parts later now
  write_tells_the_same own = record {
    bytes = λ n e xs.
        ⊎_elim {C = Told hand parts n e xs → Told later now n e xs} (λ (same : n ≡ owner). subst (λ (i : ℕ). Told hand parts i e xs → Told later now i e xs) (sym same)
        (⊎_elim {C = Told hand parts owner e xs → Told later now owner e xs}
        (λ (is : copy.queue.current ≡ e). subst (λ (i : ℕ). Told hand parts owner i xs → Told later now owner i xs) is
        (current_told xs))
        (λ (differs : copy.queue.current ≢ e). other_told own e xs differs) (cases_eq copy.queue.current e)))
        (λ (differs : n ≢ owner). bytes_kept hand later parts now n e xs (beside n differs) (beside_bytes n differs e)) (cases_eq n owner);
    toggle = λ n b.
        ⊎_elim {C = HasToggle hand parts n b → HasToggle later now n b}
        (λ (same : n ≡ owner). subst (λ (i : ℕ). HasToggle hand parts i b → HasToggle later now i b) (sym same) (owner_toggle b))
        (λ (differs : n ≢ owner). toggle_kept hand later parts now n b (beside n differs) (beside_toggle n differs)) (cases_eq n owner);
    endpoint = λ n x.
        ⊎_elim {C = HasEndpoint parts n x → HasEndpoint now n x}
        (λ (same : n ≡ owner). subst (λ (i : ℕ). HasEndpoint parts i x → HasEndpoint now i x) (sym same) (owner_endpoint x))
        (λ (differs : n ≢ owner). endpoint_kept parts now n x (beside n differs)) (cases_eq n owner);
  }

-- ---- in a ring

endpoint_written : (c : Copy) (z : Settlement) → endpoint_of (queue_written c z) ≡ endpoint_of c.queue
unfolding moved settled_queue
endpoint_written c z = refl

pub ring_writes : (member : ℕ → Bool) (parts : StructureSets) (hand : Hand) (now : StructureSets) (later : Hand)
    (k : WritesBack parts hand now later) (reply : Reply) → IsCopied member parts k.copy → IsSettled k.copy.queue reply k.settled
    → WritesCopy parts hand now later k.copy k.settled (settled_queue_of k.copy k.settled)
ring_writes member parts hand now later k reply copied settled = record {
  in_hand = k.in_hand;
  head = copied.here;
  works = settled.works;
  range = settled_range k.copy k.settled reply copied.range settled;
  settled = settled_copy k.copy k.settled;
  written = is_written k.copy k.settled;
  named = endpoint_written k.copy k.settled;
  element = k.element;
  here = k.here;
  received_is = k.received_is;
  now_is = k.now_is;
  unsettled = empty_unsettled later k.nothing;
}

pub writing_tells_the_same : (member : ℕ → Bool) (parts : StructureSets) (hand : Hand) (now : StructureSets) (later : Hand)
    (k : WritesBack parts hand now later) (reply : Reply) → IsCopied member parts k.copy → IsSettled k.copy.queue reply k.settled
    → AreOwn (parts k.copy.at) → SameTold hand parts later now
writing_tells_the_same member parts hand now later k reply copied settled own =
    write_tells_the_same parts hand now later k.copy k.settled (settled_queue_of k.copy k.settled)
    (ring_writes member parts hand now later k reply copied settled) own
