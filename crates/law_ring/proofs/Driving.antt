-- A ring under a driver's stores, lends and returns of runs.
use Rattle.std.proofs.Common.{◌≡◌, ◌≢◌, ℕ, ◌+◌, ◌*◌, ◌<◌, Bool, true, false, ◌==◌, if◌then◌else◌, set, Some, None, ap, refl, sym, subst, ◌∙◌, ⊎_elim, arith}
use Rattle.std.proofs.lemmas.Bool.{cases_eq, true≢false, eq-eqb, eqb-true}
use Rattle.law_common.proofs.Booleans.{on_or_off}
use Rattle.law_ring.proofs.Common.{element_no_head, relinked_sound, sound_still, settled_linked, wider_link, none_some}
use Rattle.word_mem.specs.Memory.{Mem, with_word}
use Rattle.link_words.specs.declared.fields.LinkBits.{LinkBits}
use Rattle.link_words.specs.Layout.{word_of}
use Rattle.link_words.specs.Fields.{link_rows}
use Rattle.qh_qtd.specs.declared.qtd.Qtd.{Qtd}
use Rattle.qh_qtd.specs.declared.queue_head.Qh.{Qh}
use Rattle.qh_qtd.specs.Qtd.{qtd_words, IsQtdInRange}
use Rattle.qh_qtd.specs.QueueHead.{qh_words, IsQhInRange}
use Rattle.qh_qtd.proofs.QhLaws.{qh_words-link}
use Rattle.usb_base.specs.declared.packets.Reply.{Reply}
use Rattle.hc_copy.specs.declared.held.Held.{Held}
use Rattle.hc_copy.specs.Overlay.{settled_queue}
use Rattle.async_walk.specs.Rows.{WalkPlace}
use Rattle.law_structures.specs.lent_structures.Structures.{Structure, QueueHead, Element, Structures, StructureSets, with_structure, put, without_structure, without, Holds, Has, Tells}
use Rattle.law_structures.specs.lent_structures.Changes.{Leaves, IsNew}
use Rattle.law_structures.proofs.lemmas.lent_structures.Names.{with_here, with_there, put_here, put_beside, put_same, put_else, without_here, without_beside, without_else}
use Rattle.law_structures.proofs.lemmas.lent_structures.Telling.{new_is_told, another_is_told, fewer_are_told}
use Rattle.law_structures.proofs.lemmas.lent_structures.Writing.{word_put_queue, word_put_element}
use Rattle.law_structures.specs.lent_structures.Sound.{LeadsAmong, IsSoundElement, IsSoundQueue, IsMember}
use Rattle.law_structures.proofs.lemmas.lent_structures.Altering.{found_queue, no_two, a_queue_head_alters_nothing}
use Rattle.law_structures.proofs.lemmas.lent_structures.Members.{an_altered_part_is_sound}
use Rattle.law_ring.specs.Hand.{Copy, copied_queue, Settlement, Hand, Empty, Copied, Settled, Stale, held_of}
use Rattle.claims_base.specs.Controller.{Base}
use Rattle.law_ring.specs.Ring.{IsCopied, IsSettled, IsInHand, IsRing}
use Rattle.law_ring.specs.Stores.{KeepsQueueHeads, IsUnnamed, copy_linked, hand_linked, hand_stale, IsWider, IsClosed, IsHandAmong, IsAmong}
use Rattle.law_ring.proofs.Parting.{member_stored}

-- ---- any change that leaves each queue head

copy_kept : (member : ℕ → Bool) (parts now : StructureSets) (c : Copy) → KeepsQueueHeads parts now → IsCopied member parts c → IsCopied member now c
copy_kept member parts now c keeps k = record { on = k.on; here = keeps c.at c.queue k.here; link = k.link; range = k.range }

in_hand_kept : (member : ℕ → Bool) (parts now : StructureSets) (reply : Reply) (hand : Hand) → KeepsQueueHeads parts now → IsInHand member parts reply hand → IsInHand member now reply hand
in_hand_kept member parts now reply Empty keeps k = tt
in_hand_kept member parts now reply (Copied c) keeps k = copy_kept member parts now c keeps k
in_hand_kept member parts now reply (Settled c s) keeps k = (copy_kept member parts now c keeps k.0, k.1)
in_hand_kept member parts now reply (Stale n q) keeps k = k

pub other_parts_leave_ring : (base : Base) (member : ℕ → Bool) (parts now : StructureSets) (hand : Hand) (p : WalkPlace) (after : Mem) → IsRing base member parts hand p → Tells after now → ((n : ℕ) → member n ≡ true → IsMember member n (now n)) → KeepsQueueHeads parts now → IsRing base member now hand (record p { memory = after })
other_parts_leave_ring base member parts now hand p after k told members keeps = record {
  tells = told;
  members = members;
  registers = k.registers;
  start = k.start;
  cursor = record { to = k.cursor.to; leads = k.cursor.leads; on = k.cursor.on };
  held = k.held;
  in_hand = in_hand_kept member parts now p.walk.reply hand keeps k.in_hand;
}

-- the part of one owner has changed
members_but_one : (member : ℕ → Bool) (parts now : StructureSets) (n : ℕ) → ((i : ℕ) → i ≢ n → now i ≡ parts i) → (member n ≡ true → IsMember member n (now n)) → ((i : ℕ) → member i ≡ true → IsMember member i (parts i)) → (i : ℕ) → member i ≡ true → IsMember member i (now i)
members_but_one member parts now n others here members i on =
    ⊎_elim (λ (same : i ≡ n). subst (λ (j : ℕ). IsMember member j (now j)) (sym same) (here (ap member (sym same) ∙ on)))
    (λ (differs : i ≢ n). subst (IsMember member i) (sym (others i differs)) (members i on)) (cases_eq i n)

member_put : (member : ℕ → Bool) (parts : StructureSets) (n a : ℕ) (s : Structure) → IsMember member n (with_structure (parts n) a s) → IsMember member n (put parts n a s n)
member_put member parts n a s m = subst (IsMember member n) (sym (put_here parts n a s)) m

member_without : (member : ℕ → Bool) (parts : StructureSets) (n a : ℕ) → IsMember member n (without_structure (parts n) a) → IsMember member n (without parts n a n)
member_without member parts n a m = subst (IsMember member n) (sym (without_here parts n a)) m

-- what is put at a name that no queue head has leaves each queue head
keeps_put : (parts : StructureSets) (n a : ℕ) (s : Structure) → ((q : Qh) → parts n a ≡ Some (QueueHead q) → ⊥) → KeepsQueueHeads parts (put parts n a s)
keeps_put parts n a s no_head i q here =
    ⊎_elim (λ (owner : i ≡ n).
    let there : parts n n ≡ Some (QueueHead q) = ap (λ (j : ℕ). parts j j) (sym owner) ∙ here in
    ap (λ (j : ℕ). put parts n a s j j) owner ∙ put_else parts n a s n (λ same. no_head q (ap (parts n) (sym same) ∙ there)) ∙ there)
    (λ (differs : i ≢ n). ap (λ (part : Structures). part i) (put_beside parts n a s i differs) ∙ here) (cases_eq i n)

keeps_without : (parts : StructureSets) (n a : ℕ) → ((q : Qh) → parts n a ≡ Some (QueueHead q) → ⊥) → KeepsQueueHeads parts (without parts n a)
keeps_without parts n a no_head i q here =
    ⊎_elim (λ (owner : i ≡ n).
    let there : parts n n ≡ Some (QueueHead q) = ap (λ (j : ℕ). parts j j) (sym owner) ∙ here in
    ap (λ (j : ℕ). without parts n a j j) owner ∙ without_else parts n a n (λ same. no_head q (ap (parts n) (sym same) ∙ there)) ∙ there)
    (λ (differs : i ≢ n). ap (λ (part : Structures). part i) (without_beside parts n a i differs) ∙ here) (cases_eq i n)

-- ---- a word of an inactive qTD

pub element_store_leaves_ring : (base : Base) (member : ℕ → Bool) (parts : StructureSets) (hand : Hand) (p : WalkPlace) (n a : ℕ) (d new : Qtd) (k v : ℕ) → IsRing base member parts hand p → parts n a ≡ Some (Element d) → d.token.active ≡ false → k < 8 → qtd_words new ≡ set (qtd_words d) k v → IsQtdInRange new → (member n ≡ true → IsSoundElement (parts n) new × IsUnnamed (parts n) a new) → IsRing base member (put parts n a (Element new)) hand (record p { memory = with_word p.memory (a + 4 * k) v })
element_store_leaves_ring base member parts hand p n a d new k v ring at off below is range sound =
    other_parts_leave_ring base member parts (put parts n a (Element new)) hand p (with_word p.memory (a + 4 * k) v) ring
    (word_put_element p.memory parts n a d new k v ring.tells at below is range)
    (members_but_one member parts (put parts n a (Element new)) n (put_beside parts n a (Element new))
    (λ on. let s = sound on in member_put member parts n a (Element new) (member_stored member n (parts n) a d new (ring.members n on) at off s.0 s.1)) ring.members)
    (keeps_put parts n a (Element new) (λ q head. element_no_head (parts n a) d q at head))

-- ---- a structure that is lent, or joins in blocks that are Lent

pub lend_leaves_ring : (base : Base) (member : ℕ → Bool) (parts : StructureSets) (hand : Hand) (p : WalkPlace) (n a : ℕ) (s : Structure) (after : Mem) → IsRing base member parts hand p → Leaves p.memory after → IsNew p.memory after a s → parts n a ≡ None → (member n ≡ true → IsMember member n (with_structure (parts n) a s)) → IsRing base member (put parts n a s) hand (record p { memory = after })
lend_leaves_ring base member parts hand p n a s after ring left fresh none owes =
    other_parts_leave_ring base member parts (put parts n a s) hand p after ring
    (new_is_told p.memory after parts n a s ring.tells left fresh)
    (members_but_one member parts (put parts n a s) n (put_beside parts n a s) (λ on. member_put member parts n a s (owes on)) ring.members)
    (keeps_put parts n a s (λ q head. none_some (parts n a) (QueueHead q) none head))

pub another_leaves_ring : (base : Base) (member : ℕ → Bool) (parts : StructureSets) (hand : Hand) (p : WalkPlace) (n a : ℕ) (s : Structure) → IsRing base member parts hand p → Holds p.memory a s → ((b k c : ℕ) (u : Structure) → Has a s b → parts k c ≡ Some u → Has c u b → ⊥) → parts n a ≡ None → (member n ≡ true → IsMember member n (with_structure (parts n) a s)) → IsRing base member (put parts n a s) hand p
another_leaves_ring base member parts hand p n a s ring holds apart none owes =
    other_parts_leave_ring base member parts (put parts n a s) hand p p.memory ring
    (another_is_told p.memory parts n a s ring.tells holds apart)
    (members_but_one member parts (put parts n a s) n (put_beside parts n a s) (λ on. member_put member parts n a s (owes on)) ring.members)
    (keeps_put parts n a s (λ q head. none_some (parts n a) (QueueHead q) none head))

-- ---- a structure is told no more

pub fewer_leave_ring : (base : Base) (member : ℕ → Bool) (parts : StructureSets) (hand : Hand) (p : WalkPlace) (n a : ℕ) → IsRing base member parts hand p → ((q : Qh) → parts n a ≡ Some (QueueHead q) → ⊥) → (member n ≡ true → IsMember member n (without_structure (parts n) a)) → IsRing base member (without parts n a) hand p
fewer_leave_ring base member parts hand p n a ring no_head owes =
    other_parts_leave_ring base member parts (without parts n a) hand p p.memory ring (fewer_are_told p.memory parts n a ring.tells)
    (members_but_one member parts (without parts n a) n (without_beside parts n a) (λ on. member_without member parts n a (owes on)) ring.members)
    (keeps_without parts n a no_head)

-- of an owner that the walk doesn't meet any more
stranger_copy : (member : ℕ → Bool) (parts : StructureSets) (n a : ℕ) (c : Copy) → member n ≡ false → IsCopied member parts c → IsCopied member (without parts n a) c
stranger_copy member parts n a c off k = record {
  on = k.on;
  here = ap (λ (part : Structures). part c.at) (without_beside parts n a c.at (λ same. true≢false (sym k.on ∙ ap member same ∙ off))) ∙ k.here;
  link = k.link;
  range = k.range;
}

stranger_hand : (member : ℕ → Bool) (parts : StructureSets) (n a : ℕ) (reply : Reply) (hand : Hand) → member n ≡ false → IsInHand member parts reply hand → IsInHand member (without parts n a) reply hand
stranger_hand member parts n a reply Empty off k = tt
stranger_hand member parts n a reply (Copied c) off k = stranger_copy member parts n a c off k
stranger_hand member parts n a reply (Settled c s) off k = (stranger_copy member parts n a c off k.0, k.1)
stranger_hand member parts n a reply (Stale m q) off k = k

pub strangers_leave_ring : (base : Base) (member : ℕ → Bool) (parts : StructureSets) (hand : Hand) (p : WalkPlace) (n a : ℕ) → IsRing base member parts hand p → member n ≡ false → IsRing base member (without parts n a) hand p
strangers_leave_ring base member parts hand p n a ring off = record {
  tells = fewer_are_told p.memory parts n a ring.tells;
  members = members_but_one member parts (without parts n a) n (without_beside parts n a) (λ on. absurd (true≢false (sym on ∙ off))) ring.members;
  registers = ring.registers;
  start = ring.start;
  cursor = ring.cursor;
  held = ring.held;
  in_hand = stranger_hand member parts n a p.walk.reply hand off ring.in_hand;
}

-- ---- the link of a queue head

linked_by : (b : Bool) (l : LinkBits) (c : Copy) → copied_queue (record c { queue = if b then record c.queue { link = l } else c.queue }) ≡ copied_queue c
linked_by true l c = refl
linked_by false l c = refl

pub copied_same : (n : ℕ) (l : LinkBits) (c : Copy) → copied_queue (copy_linked n l c) ≡ copied_queue c
copied_same n l c = linked_by (c.at == n) l c

held_same : (n : ℕ) (l : LinkBits) (hand : Hand) → held_of hand ≡ held_of (hand_linked n l hand)
held_same n l (Copied c) = ap (λ (q : Qh). let h : Held = record { at = c.at; queue_head = q; settled = None } in Some h) (sym (copied_same n l c))
held_same n l (Settled c s) = ap (λ (q : Qh). let h : Held = record { at = c.at; queue_head = settled_queue s.host q; settled = Some s.outcome } in Some h) (sym (copied_same n l c))
held_same n l _ = refl

pub wider_member : (member wider : ℕ → Bool) (n : ℕ) (part : Structures) → IsWider member wider → IsMember member n part → IsMember wider n part
wider_member member wider n part more m = record { queue = m.queue; here = m.here; link = wider_link member wider m.queue.link more m.link; sound = m.sound; elements = m.elements; own = m.own }

-- the queue head that stands at the copy's address
linked_here : (b : Bool) (parts : StructureSets) (n : ℕ) (q : Qh) (l : LinkBits) (c : Copy) → (c.at == n) ≡ b → parts n n ≡ Some (QueueHead q) → parts c.at c.at ≡ Some (QueueHead c.queue) → put parts n n (QueueHead (record q { link = l })) c.at c.at ≡ Some (QueueHead (if b then record c.queue { link = l } else c.queue))
linked_here true parts n q l c at head here =
    let same : c.at ≡ n = eqb-true c.at n at in
    let is : q ≡ c.queue = found_queue (parts n n) q c.queue head (ap (λ (i : ℕ). parts i i) (sym same) ∙ here) in
    ap (λ (i : ℕ). put parts n n (QueueHead (record q { link = l })) i i) same ∙ put_same parts n n (QueueHead (record q { link = l })) ∙ ap (λ (x : Qh). Some (QueueHead (record x { link = l }))) is
linked_here false parts n q l c at head here =
    ap (λ (part : Structures). part c.at) (put_beside parts n n (QueueHead (record q { link = l })) c.at (λ same. true≢false (sym (eq-eqb c.at n same) ∙ at))) ∙ here

copy_after_link : (member wider : ℕ → Bool) (parts : StructureSets) (n : ℕ) (q : Qh) (l : LinkBits) (c : Copy) → IsWider member wider → parts n n ≡ Some (QueueHead q) → IsCopied member parts c → IsCopied wider (put parts n n (QueueHead (record q { link = l }))) (copy_linked n l c)
copy_after_link member wider parts n q l c more head k = record {
  on = more c.at k.on;
  here = linked_here (c.at == n) parts n q l c refl head k.here;
  link = wider_link member wider c.link more k.link;
  range = subst IsQhInRange (sym (copied_same n l c)) k.range;
}

hand_after_link : (member wider : ℕ → Bool) (parts : StructureSets) (n : ℕ) (q : Qh) (l : LinkBits) (reply : Reply) (hand : Hand) → IsWider member wider → parts n n ≡ Some (QueueHead q) → IsInHand member parts reply hand → IsInHand wider (put parts n n (QueueHead (record q { link = l }))) reply (hand_linked n l hand)
hand_after_link member wider parts n q l reply Empty more head k = tt
hand_after_link member wider parts n q l reply (Copied c) more head k = copy_after_link member wider parts n q l c more head k
hand_after_link member wider parts n q l reply (Stale m r) more head k = record { on = more m k.on; link = wider_link member wider r.link more k.link; halted = k.halted }
hand_after_link member wider parts n q l reply (Settled c s) more head k = (copy_after_link member wider parts n q l c more head k.0, settled_linked (c.at == n) l c.queue reply s k.1)

-- a member with another link
member_relinked : (wider : ℕ → Bool) (n : ℕ) (part : Structures) (q : Qh) (l : LinkBits) (m : IsMember wider n part) → m.queue ≡ q → part n ≡ Some (QueueHead q) → LeadsAmong wider l → IsMember wider n (with_structure part n (QueueHead (record q { link = l })))
member_relinked wider n part q l m is head link =
    let now = with_structure part n (QueueHead (record q { link = l })) in
    let alters = a_queue_head_alters_nothing part n q (record q { link = l }) head in
    an_altered_part_is_sound wider n part now (record q { link = l }) m alters (with_here part n (QueueHead (record q { link = l }))) link
    (relinked_sound now q l (sound_still part now q alters (λ a t here. with_there part n (QueueHead (record q { link = l })) a
    (no_two part a n (Element t) (QueueHead q) here head (λ e. cc)) ∙ here) (subst (IsSoundQueue part) is m.sound)))

wider_members : (member wider : ℕ → Bool) (parts : StructureSets) → IsWider member wider → ((i : ℕ) → member i ≡ true → IsMember member i (parts i)) → ((i : ℕ) → wider i ≡ true → member i ≡ false → IsMember wider i (parts i)) → (i : ℕ) → wider i ≡ true → IsMember wider i (parts i)
wider_members member wider parts more members comes i on =
    ⊎_elim (λ (old : member i ≡ true). wider_member member wider i (parts i) more (members i old)) (λ (new : member i ≡ false). comes i on new) (on_or_off (member i))

linked_member : (wider : ℕ → Bool) (parts : StructureSets) (n : ℕ) (q : Qh) (l : LinkBits) → parts n n ≡ Some (QueueHead q) → LeadsAmong wider l → IsMember wider n (parts n) → IsMember wider n (put parts n n (QueueHead (record q { link = l })) n)
linked_member wider parts n q l head link m =
    let is : m.queue ≡ q = found_queue (parts n n) m.queue q m.here head in
    subst (IsMember wider n) (sym (put_here parts n n (QueueHead (record q { link = l }))))
    (member_relinked wider n (parts n) q l m is head link)

pub link_store_leaves_ring : (base : Base) (member wider : ℕ → Bool) (parts : StructureSets) (hand : Hand) (p : WalkPlace) (n : ℕ) (q : Qh) (l : LinkBits) → IsRing base member parts hand p → IsWider member wider → parts n n ≡ Some (QueueHead q) → IsQhInRange (record q { link = l }) → (wider n ≡ true → LeadsAmong wider l) → ((i : ℕ) → wider i ≡ true → member i ≡ false → IsMember wider i (parts i)) → IsRing base wider (put parts n n (QueueHead (record q { link = l }))) (hand_linked n l hand) (record p { memory = with_word p.memory n (word_of link_rows l) })
link_store_leaves_ring base member wider parts hand p n q l ring more head range link comes =
    let new : Structure = QueueHead (record q { link = l }) in
    let first : n + 4 * 0 ≡ n = omega arith in
    let members : (i : ℕ) → wider i ≡ true → IsMember wider i (parts i) = wider_members member wider parts more ring.members comes in
    record {
      tells = subst (λ (at : ℕ). Tells (with_word p.memory at (word_of link_rows l)) (put parts n n new)) first
          (word_put_queue p.memory parts n n q (record q { link = l }) 0 (word_of link_rows l) ring.tells head (omega arith) (sym (qh_words-link q l)) range);
      members = members_but_one wider parts (put parts n n new) n (put_beside parts n n new) (λ on. linked_member wider parts n q l head (link on) (members n on)) members;
      registers = ring.registers;
      start = more base.async_list_address ring.start;
      cursor = record { to = ring.cursor.to; leads = ring.cursor.leads; on = more ring.cursor.to ring.cursor.on };
      held = ring.held ∙ held_same n l hand;
      in_hand = hand_after_link member wider parts n q l p.walk.reply hand more head ring.in_hand;
    }

-- ---- a word of a halted queue head

-- what is in hand of it is stale
stale_held : (b : Bool) (c : Copy) (n : ℕ) → (c.at == n) ≡ b → held_of (Copied c) ≡ held_of (if b then Stale n (copied_queue c) else Copied c)
stale_held true c n at = ap (λ (i : ℕ). let h : Held = record { at = i; queue_head = copied_queue c; settled = None } in Some h) (eqb-true c.at n at)
stale_held false c n at = refl

held_stale : (n : ℕ) (hand : Hand) → held_of hand ≡ held_of (hand_stale n hand)
held_stale n (Copied c) = stale_held (c.at == n) c n refl
held_stale n _ = refl

beside_head : (parts : StructureSets) (n : ℕ) (new : Qh) (c : Copy) → c.at ≢ n → parts c.at c.at ≡ Some (QueueHead c.queue) → put parts n n (QueueHead new) c.at c.at ≡ Some (QueueHead c.queue)
beside_head parts n new c differs here = ap (λ (part : Structures). part c.at) (put_beside parts n n (QueueHead new) c.at differs) ∙ here

copy_stale : (b : Bool) (member : ℕ → Bool) (parts : StructureSets) (reply : Reply) (n : ℕ) (q new : Qh) (c : Copy) → (c.at == n) ≡ b → parts n n ≡ Some (QueueHead q) → q.token.halted ≡ true → IsCopied member parts c → IsInHand member (put parts n n (QueueHead new)) reply (if b then Stale n (copied_queue c) else Copied c)
copy_stale true member parts reply n q new c at head halted k =
    let same : c.at ≡ n = eqb-true c.at n at in
    let is : q ≡ c.queue = found_queue (parts n n) q c.queue head (ap (λ (i : ℕ). parts i i) (sym same) ∙ k.here) in
    record { on = ap member (sym same) ∙ k.on; link = k.link; halted = ap (λ (x : Qh). x.token.halted) (sym is) ∙ halted }
copy_stale false member parts reply n q new c at head halted k =
    record { on = k.on; here = beside_head parts n new c (λ same. true≢false (sym (eq-eqb c.at n same) ∙ at)) k.here; link = k.link; range = k.range }

-- no transaction of it is under way
settled_beside : (member : ℕ → Bool) (parts : StructureSets) (reply : Reply) (n : ℕ) (q : Qh) (c : Copy) (s : Settlement) → ((i : ℕ) → member i ≡ true → IsMember member i (parts i)) → parts n n ≡ Some (QueueHead q) → q.token.halted ≡ true → IsCopied member parts c → IsSettled c.queue reply s → c.at ≢ n
settled_beside member parts reply n q c s members head halted k z same =
    let m = members c.at k.on in
    let is : m.queue ≡ c.queue = found_queue (parts c.at c.at) m.queue c.queue m.here k.here in
    let also : q ≡ c.queue = found_queue (parts n n) q c.queue head (ap (λ (i : ℕ). parts i i) (sym same) ∙ k.here) in
    let w = m.sound.work (ap (λ (x : Qh). x.token.active) is ∙ z.works) in
    true≢false (sym halted ∙ ap (λ (x : Qh). x.token.halted) (also ∙ sym is) ∙ w.goes_on)

hand_after_mend : (member : ℕ → Bool) (parts : StructureSets) (reply : Reply) (n : ℕ) (q new : Qh) (hand : Hand) → ((i : ℕ) → member i ≡ true → IsMember member i (parts i)) → parts n n ≡ Some (QueueHead q) → q.token.halted ≡ true → IsInHand member parts reply hand → IsInHand member (put parts n n (QueueHead new)) reply (hand_stale n hand)
hand_after_mend member parts reply n q new Empty members head halted k = tt
hand_after_mend member parts reply n q new (Copied c) members head halted k = copy_stale (c.at == n) member parts reply n q new c refl head halted k
hand_after_mend member parts reply n q new (Settled c s) members head halted k =
    (record { on = k.0.on; here = beside_head parts n new c (settled_beside member parts reply n q c s members head halted k.0 k.1) k.0.here; link = k.0.link; range = k.0.range }, k.1)
hand_after_mend member parts reply n q new (Stale m r) members head halted k = k

mended_member : (member : ℕ → Bool) (parts : StructureSets) (n : ℕ) (q new : Qh) → parts n n ≡ Some (QueueHead q) → LeadsAmong member new.link → IsSoundQueue (parts n) new → IsMember member n (parts n) → IsMember member n (put parts n n (QueueHead new) n)
mended_member member parts n q new head link sound m =
    let now = with_structure (parts n) n (QueueHead new) in
    let alters = a_queue_head_alters_nothing (parts n) n q new head in
    member_put member parts n n (QueueHead new)
    (an_altered_part_is_sound member n (parts n) now new m alters (with_here (parts n) n (QueueHead new)) link
    (sound_still (parts n) now new alters (λ a t here. with_there (parts n) n (QueueHead new) a
    (no_two (parts n) a n (Element t) (QueueHead q) here head (λ e. cc)) ∙ here) sound))

pub mending_leaves_ring : (base : Base) (member : ℕ → Bool) (parts : StructureSets) (hand : Hand) (p : WalkPlace) (n : ℕ) (q new : Qh) (k v : ℕ) → IsRing base member parts hand p → parts n n ≡ Some (QueueHead q) → q.token.halted ≡ true → k < 12 → qh_words new ≡ set (qh_words q) k v → IsQhInRange new → (member n ≡ true → LeadsAmong member new.link × IsSoundQueue (parts n) new) → IsRing base member (put parts n n (QueueHead new)) (hand_stale n hand) (record p { memory = with_word p.memory (n + 4 * k) v })
mending_leaves_ring base member parts hand p n q new k v ring head halted below is range sound = record {
  tells = word_put_queue p.memory parts n n q new k v ring.tells head below is range;
  members = members_but_one member parts (put parts n n (QueueHead new)) n (put_beside parts n n (QueueHead new))
      (λ on. let s = sound on in mended_member member parts n q new head s.0 s.1 (ring.members n on)) ring.members;
  registers = ring.registers;
  start = ring.start;
  cursor = record { to = ring.cursor.to; leads = ring.cursor.leads; on = ring.cursor.on };
  held = ring.held ∙ held_stale n hand;
  in_hand = hand_after_mend member parts p.walk.reply n q new hand ring.members head halted ring.in_hand;
}

-- ---- fewer are met, once the walk is among them

narrow_copy : (member narrow : ℕ → Bool) (parts : StructureSets) (c : Copy) → narrow c.at ≡ true → LeadsAmong narrow c.link → IsCopied member parts c → IsCopied narrow parts c
narrow_copy member narrow parts c on link k = record { on = on; here = k.here; link = link; range = k.range }

narrow_hand : (member narrow : ℕ → Bool) (parts : StructureSets) (reply : Reply) (hand : Hand) → IsHandAmong narrow hand → IsInHand member parts reply hand → IsInHand narrow parts reply hand
narrow_hand member narrow parts reply Empty among k = tt
narrow_hand member narrow parts reply (Copied c) among k = narrow_copy member narrow parts c among.0 among.1 k
narrow_hand member narrow parts reply (Stale n q) among k = record { on = among.0; link = among.1; halted = k.halted }
narrow_hand member narrow parts reply (Settled c s) among k = (narrow_copy member narrow parts c among.0 among.1 k.0, k.1)

pub ring_narrowed : (base : Base) (member narrow : ℕ → Bool) (parts : StructureSets) (hand : Hand) (p : WalkPlace) → IsRing base member parts hand p → IsWider narrow member → IsClosed narrow parts → narrow base.async_list_address ≡ true → IsAmong narrow hand p → IsRing base narrow parts hand p
ring_narrowed base member narrow parts hand p ring fewer closed start among = record {
  tells = ring.tells;
  members = λ n on. let m = ring.members n (fewer n on) in record { queue = m.queue; here = m.here; link = closed n m.queue on m.here; sound = m.sound; elements = m.elements; own = m.own };
  registers = ring.registers;
  start = start;
  cursor = among.cursor;
  held = ring.held;
  in_hand = narrow_hand member narrow parts p.walk.reply hand among.in_hand ring.in_hand;
}
