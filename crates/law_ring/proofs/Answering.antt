-- The doorbell is answered where the head of the ring is read, and then the walk is at the head.
use Rattle.std.proofs.Common.{◌≡◌, ℕ, Bool, true, false, if◌then◌else◌, List, Option, Some, None, ap, refl, sym, subst, ◌∙◌}
use Rattle.std.proofs.lemmas.Bool.{true≢false}
use Rattle.std.proofs.lemmas.Option.{same_Some}
use Rattle.law_ring.proofs.Common.{one_link}
use Rattle.usb_base.specs.declared.packets.Ask.{Ask}
use Rattle.usb_base.specs.declared.packets.Reply.{Reply}
use Rattle.word_mem.specs.Memory.{Mem, refused}
use Rattle.link_words.specs.declared.fields.LinkBits.{LinkBits}
use Rattle.link_words.specs.declared.kinds.Link.{Link}
use Rattle.link_words.specs.declared.kinds.Link.TheVariants as links
use Rattle.op_registers.specs.RegisterFile.{RegisterFile}
use Rattle.qh_qtd.specs.declared.qtd.Qtd.{Qtd}
use Rattle.qh_qtd.specs.declared.queue_head.Qh.{Qh}
use Rattle.toggle_error.specs.declared.host.Outcome.{Outcome}
use Rattle.mem_queues.specs.Structures.{reaches_queue_head, queue_head_at_address, queue_head_was_read}
use Rattle.hc_copy.specs.declared.held.Held.{Held}
use Rattle.hc_copy.specs.declared.held.Transaction.{Transaction}
use Rattle.hc_copy.specs.Buffer.{Reading, sending}
use Rattle.hc_copy.specs.WriteBack.{raised}
use Rattle.async_walk.specs.declared.rows.WalkRow.{WalkRow}
use Rattle.async_walk.specs.declared.state.Cursor.TheVariants as cursors
use Rattle.async_walk.specs.declared.state.ReloadMode.{ReloadMode}
use Rattle.async_walk.specs.declared.state.ReloadMode.TheVariants.{Reload}
use Rattle.async_walk.specs.Naks.{reloaded, planned, mode_after}
use Rattle.async_walk.specs.Causes.{LeadsTo, Cause, ring_is_broken, head_is_quiet, leads_to, is_resting, queue_ends, qtd_is_done, queue_is_broken, takes_qtd, is_out_of_time, has_time, is_settled}
use Rattle.async_walk.specs.Rows.{WalkPlace, started, started_registers, cursor_link, ring_read, read_at, was_read, fetched_registers, took, writing, wrote_place, wrote_settled, wrote, SentAt, Sends, Leads, at_event, event_row}
use Rattle.async_walk.proofs.Causes.{each_row_has_its_cause}
use Rattle.law_structures.specs.lent_structures.Structures.{QueueHead, StructureSets, Tells}
use Rattle.law_structures.proofs.lemmas.lent_structures.Reading.{head_read}
use Rattle.law_structures.specs.lent_structures.Sound.{LeadsAmong, IsMember}
use Rattle.law_ring.specs.Hand.{Copy, copied_queue, Settlement, Hand, Empty, Copied, Settled, Stale, held_of}
use Rattle.claims_base.specs.Controller.{Base}
use Rattle.law_ring.specs.Ring.{IsInHand, IsRing}
use Rattle.law_ring.specs.Stores.{IsWider, IsClosed, IsHandAmong}
use Rattle.law_ring.specs.Doorbell.{HoldsHead, IsAtHead, at_start, at_head, HasHeads}
use Rattle.law_ring.proofs.Driving.{ring_narrowed}

-- ---- the rows that leave Async Advance

-- it was 0 and is as it was
abbrev Unanswered : WalkPlace → WalkPlace → Type 0
Unanswered p new = new.registers.async_advance ≡ p.registers.async_advance

by_reach : (b : Bool) (p x y : WalkPlace) → Unanswered p x → Unanswered p y → Unanswered p (if b then x else y)
by_reach true p x y one other = one
by_reach false p x y one other = other

unanswered : (p new : WalkPlace) → Unanswered p new → p.registers.async_advance ≡ false → new.registers.async_advance ≡ true → IsAtHead new
unanswered p new same off on = absurd (true≢false (sym on ∙ same ∙ off))

took_leaves : (a : ℕ) (t : Qtd) (p : WalkPlace) (o : Option Held) → Unanswered p (took a t p o)
took_leaves a t p None = refl
took_leaves a t p (Some h) = by_reach (reaches_queue_head p.memory h.at) p _ _ refl refl

placed_leaves : (b : Bool) (q : Qh) (o : Outcome) (p : WalkPlace) → Unanswered p (wrote_place b q o p)
unfolding raised
placed_leaves true q o p = refl
placed_leaves false q o p = refl

wrote_settled_leaves : (p : WalkPlace) (h : Held) (o : Option Outcome) → Unanswered p (wrote_settled p h o)
wrote_settled_leaves p h None = refl
wrote_settled_leaves p h (Some o) =
    placed_leaves (writing h o p.walk.reply p.memory).all h.queue_head o (record p { memory = (writing h o p.walk.reply p.memory).memory })

wrote_leaves : (p : WalkPlace) (o : Option Held) → Unanswered p (wrote p o)
wrote_leaves p None = refl
wrote_leaves p (Some h) = wrote_settled_leaves p h h.settled

sent_leaves : {W : Type 0} (transacts : W → Ask → List ℕ → Reply → W → Type 0) (b : Bool) (t : Transaction) (h : Held) (read : Reading) (p : WalkPlace) (before : W) (new : WalkPlace) (after : W) → SentAt transacts b t h read p before new after → Unanswered p new
sent_leaves transacts true t h read p before new after made = ap (λ (q : WalkPlace). q.registers.async_advance) made.place
sent_leaves transacts false t h read p before new after stays = ap (λ (q : WalkPlace). q.registers.async_advance) stays.0

sends_leaves : {W : Type 0} (transacts : W → Ask → List ℕ → Reply → W → Type 0) (t : Transaction) (p : WalkPlace) (o : Option Held) (before : W) (new : WalkPlace) (after : W) → Sends transacts t p o before new after → Unanswered p new
sends_leaves transacts t p None before new after stays = ap (λ (q : WalkPlace). q.registers.async_advance) stays.0
sends_leaves transacts t p (Some h) before new after sent =
    sent_leaves transacts (sending t h.queue_head p.memory).all t h (sending t h.queue_head p.memory) p before new after sent

-- ---- the rows that answer

fetched_answers : (b : Bool) (r : RegisterFile) → r.async_advance ≡ false → (fetched_registers b r).async_advance ≡ true → b ≡ true
fetched_answers true r off on = refl
fetched_answers false r off on = absurd (true≢false (sym on ∙ off))

-- a queue head that was read is read again
read_again : (b : Bool) (m : Mem) (a : ℕ) → queue_head_at_address (if b then m else refused m) a ≡ queue_head_at_address m a
read_again true m a = refl
read_again false m a = refl

fetch_reads : (s : WalkPlace) (a : ℕ) (q : Qh) → LeadsTo s a q → (was_read s).memory ≡ queue_head_was_read s.memory a
fetch_reads s a q k = ap (read_at s) k.no_copy ∙ ap (ring_read s.memory) k.leads_there

there_after : (s : WalkPlace) (a : ℕ) (q : Qh) → LeadsTo s a q → queue_head_at_address (was_read s).memory a ≡ Some q
there_after s a q k =
    ap (λ (m : Mem). queue_head_at_address m a) (fetch_reads s a q k) ∙ read_again (reaches_queue_head s.memory a) s.memory a ∙ k.stands_there

answered_at : {W : Type 0} (transacts : W → Ask → List ℕ → Reply → W → Type 0) (s : WalkPlace) (r : WalkRow) (wire : W) (new : WalkPlace) (after : W) → Cause s r → Leads transacts r (was_read s) wire new after → s.registers.async_advance ≡ false → new.registers.async_advance ≡ true → IsAtHead new
answered_at transacts s _ wire new after (head_is_quiet k) lead off on =
    at_start (record { cursor = ap (λ (q : WalkPlace). q.walk.cursor) lead.0; nothing = ap (λ (q : WalkPlace). q.walk.held) lead.0 ∙ k.leads.no_copy })
answered_at transacts s _ wire new after (leads_to a q k) lead off on =
    at_head (record {
      at = a;
      queue = q;
      mode = mode_after q s.walk.mode;
      cursor = ap (λ (p : WalkPlace). p.walk.cursor) lead.0;
      held = ap (λ (p : WalkPlace). p.walk.held) lead.0;
      is_head = fetched_answers q.head s.registers off (ap (λ (p : WalkPlace). p.registers.async_advance) (sym lead.0) ∙ on);
      stands = ap (λ (p : WalkPlace). queue_head_at_address p.memory a) lead.0 ∙ there_after s a q k;
    })
answered_at transacts s _ wire new after (ring_is_broken k) lead off on = unanswered s new (ap (λ (q : WalkPlace). q.registers.async_advance) lead.0) off on
answered_at transacts s _ wire new after (queue_is_broken k) lead off on = unanswered s new (ap (λ (q : WalkPlace). q.registers.async_advance) lead.0) off on
answered_at transacts s _ wire new after (is_resting k) lead off on = unanswered s new (ap (λ (q : WalkPlace). q.registers.async_advance) lead.0) off on
answered_at transacts s _ wire new after (queue_ends k) lead off on = unanswered s new (ap (λ (q : WalkPlace). q.registers.async_advance) lead.0) off on
answered_at transacts s _ wire new after (qtd_is_done k) lead off on = unanswered s new (ap (λ (q : WalkPlace). q.registers.async_advance) lead.0) off on
answered_at transacts s _ wire new after (is_out_of_time k) lead off on = unanswered s new (ap (λ (q : WalkPlace). q.registers.async_advance) lead.0) off on
answered_at transacts s _ wire new after (takes_qtd a t k) lead off on =
    unanswered s new (ap (λ (q : WalkPlace). q.registers.async_advance) lead.0 ∙ took_leaves a t (was_read s) s.walk.held) off on
answered_at transacts s _ wire new after (has_time copy k) lead off on =
    unanswered s new (sends_leaves transacts (planned copy.queue_head) (was_read s) s.walk.held wire new after lead) off on
answered_at transacts s _ wire new after (is_settled copy o k) lead off on =
    unanswered s new (ap (λ (q : WalkPlace). q.registers.async_advance) lead.0 ∙ wrote_leaves (was_read s) s.walk.held) off on

started_leaves : (b : Bool) (r : RegisterFile) → (started_registers b r).async_advance ≡ r.async_advance
started_leaves true r = refl
started_leaves false r = refl

pub answer_at_head : {W : Type 0} (transacts : W → Ask → List ℕ → Reply → W → Type 0) (p : WalkPlace) (wire : W) (new : WalkPlace) (after : W) → Leads transacts (event_row p) (at_event p) wire new after → p.registers.async_advance ≡ false → new.registers.async_advance ≡ true → IsAtHead new
answer_at_head transacts p wire new after lead off on =
    answered_at transacts (started p) (event_row p) wire new after (each_row_has_its_cause (started p)) lead (started_leaves p.walk.first p.registers ∙ off) on

-- ---- fewer are met from then on

abbrev link_address : Link → ℕ
link_address links.End = 0
link_address (links.Itd a) = a
link_address (links.Qh a) = a
link_address (links.Sitd a) = a
link_address (links.Fstn a) = a

held_none : (hand : Hand) (narrow : ℕ → Bool) → None ≡ held_of hand → IsHandAmong narrow hand
held_none Empty narrow held = tt
held_none _ narrow held = cc

naks_only : (mode : ReloadMode) (q : Qh) → (reloaded mode q).link ≡ q.link
unfolding reloaded
naks_only Reload q = refl
naks_only _ q = refl

-- the queue head at an address
one_head : (m : Mem) (parts : StructureSets) (n a : ℕ) (q r : Qh) → Tells m parts → parts n n ≡ Some (QueueHead r) → n ≡ a → queue_head_at_address m a ≡ Some q → r ≡ q
one_head m parts n a q r told here same stands = same_Some r q (sym (head_read m parts n n r told here) ∙ ap (queue_head_at_address m) same ∙ stands)

-- the copy of a head that was just read is among them
among_copy : (base : Base) (member narrow : ℕ → Bool) (parts : StructureSets) (hand : Hand) (new : WalkPlace) (k : HoldsHead new) (n : ℕ) (l : LinkBits) (r : Qh) → IsRing base member parts hand new → IsClosed narrow parts → HasHeads member narrow parts → member n ≡ true → parts n n ≡ Some (QueueHead r) → n ≡ k.at → l ≡ k.queue.link → (narrow n ≡ true) × LeadsAmong narrow l
among_copy base member narrow parts hand new k n l r ring closed heads on here same link =
    let is : r ≡ k.queue = one_head new.memory parts n k.at k.queue r ring.tells here same k.stands in
    let narrow_on : narrow n ≡ true = heads n r on here (ap (λ (x : Qh). x.head) is ∙ k.is_head) in
    (narrow_on, subst (LeadsAmong narrow) (ap (λ (x : Qh). x.link) is ∙ sym link) (closed n r narrow_on here))

same_held : (h k : Held) → Some h ≡ Some k → h ≡ k
same_held h k same = same_Some h k same

abbrev outcome_of_held : Option Held → Option Outcome
outcome_of_held None = None
outcome_of_held (Some h) = h.settled

settled_apart : (c : Copy) (s : Settlement) (q : Qh) (a : ℕ) → held_of (Settled c s) ≡ Some (record { at = a; queue_head = q; settled = None }) → ⊥
settled_apart c s q a same = let e : Some s.outcome ≡ None = ap outcome_of_held same in cc

hand_among : (base : Base) (member narrow : ℕ → Bool) (parts : StructureSets) (hand now : Hand) (new : WalkPlace) (k : HoldsHead new) → IsRing base member parts now new → IsClosed narrow parts → HasHeads member narrow parts → held_of hand ≡ new.walk.held → IsInHand member parts new.walk.reply hand → IsHandAmong narrow hand
hand_among base member narrow parts Empty now new k ring closed heads held in_hand = tt
hand_among base member narrow parts (Copied c) now new k ring closed heads held in_hand =
    let is = same_held (record { at = c.at; queue_head = copied_queue c; settled = None }) (record { at = k.at; queue_head = reloaded k.mode k.queue; settled = None }) (held ∙ k.held) in
    among_copy base member narrow parts now new k c.at c.link c.queue ring closed heads in_hand.on in_hand.here (ap (λ (h : Held). h.at) is) (ap (λ (h : Held). h.queue_head.link) is ∙ naks_only k.mode k.queue)
hand_among base member narrow parts (Settled c s) now new k ring closed heads held in_hand =
    absurd (settled_apart c s (reloaded k.mode k.queue) k.at (held ∙ k.held))
hand_among base member narrow parts (Stale n q) now new k ring closed heads held in_hand =
    let is = same_held (record { at = n; queue_head = q; settled = None }) (record { at = k.at; queue_head = reloaded k.mode k.queue; settled = None }) (held ∙ k.held) in
    let m : IsMember member n (parts n) = ring.members n in_hand.on in
    among_copy base member narrow parts now new k n q.link m.queue ring closed heads in_hand.on m.here (ap (λ (h : Held). h.at) is) (ap (λ (h : Held). h.queue_head.link) is ∙ naks_only k.mode k.queue)

-- the head's address, which the walk has in hand
head_among : (base : Base) (member narrow : ℕ → Bool) (parts : StructureSets) (hand : Hand) (new : WalkPlace) (k : HoldsHead new) → IsRing base member parts hand new → IsClosed narrow parts → HasHeads member narrow parts → narrow k.at ≡ true
head_among base member narrow parts hand new k ring closed heads =
    let to : links.Qh ring.cursor.to ≡ links.Qh k.at = sym ring.cursor.leads ∙ ap (cursor_link new.registers) k.cursor in
    let same : ring.cursor.to ≡ k.at = one_link ring.cursor.to k.at to in
    let m : IsMember member ring.cursor.to (parts ring.cursor.to) = ring.members ring.cursor.to ring.cursor.on in
    ap narrow (sym same) ∙ (among_copy base member narrow parts hand new k ring.cursor.to k.queue.link m.queue ring closed heads ring.cursor.on m.here same refl).0

start_at : (base : Base) (member : ℕ → Bool) (parts : StructureSets) (hand : Hand) (new : WalkPlace) → IsRing base member parts hand new → new.walk.cursor ≡ cursors.Start → cursor_link new.registers new.walk.cursor ≡ links.Qh base.async_list_address
start_at base member parts hand new ring start =
    ap (cursor_link new.registers) start ∙ ap (λ (b : Base). links.Qh b.async_list_address) ring.registers

pub answer_leaves_ring : (base : Base) (member narrow : ℕ → Bool) (parts : StructureSets) (hand : Hand) (new : WalkPlace) → IsRing base member parts hand new → IsAtHead new → IsWider narrow member → IsClosed narrow parts → narrow base.async_list_address ≡ true → HasHeads member narrow parts → IsRing base narrow parts hand new
answer_leaves_ring base member narrow parts hand new ring (at_start k) fewer closed start heads =
    ring_narrowed base member narrow parts hand new ring fewer closed start
    (record { cursor = record { to = base.async_list_address; leads = start_at base member parts hand new ring k.cursor; on = start }; in_hand = held_none hand narrow (sym k.nothing ∙ ring.held) })
answer_leaves_ring base member narrow parts hand new ring (at_head k) fewer closed start heads =
    ring_narrowed base member narrow parts hand new ring fewer closed start
    (record {
      cursor = record { to = k.at; leads = ap (cursor_link new.registers) k.cursor; on = head_among base member narrow parts hand new k ring closed heads };
      in_hand = hand_among base member narrow parts hand hand new k ring closed heads (sym ring.held) ring.in_hand;
    })
