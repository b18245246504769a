-- What keeps the kind of each structure: a structure put in the place of one of its kind, and so each event of the ring's walk.
use Rattle.std.proofs.Common.{◌≡◌, ◌≢◌, ℕ, zero, suc, ◌*◌, Bool, List, [], ◌∷◌, Option, Some, option_map, ap, refl, sym, subst, ◌∙◌, ⊎_elim}
use Rattle.std.proofs.lemmas.Bool.{cases_eq}
use Rattle.law_driver_ring.proofs.Common.{settled_there}
use Rattle.usb_base.specs.declared.packets.Ask.{Ask}
use Rattle.usb_base.specs.declared.packets.Reply.{Reply}
use Rattle.mem_bytes.specs.Bytes.{place}
use Rattle.mem_runs.specs.declared.slots.Slot.{Slot}
use Rattle.drv_table.specs.Words.{head_block}
use Rattle.claims_driver.specs.Owners.{Views}
use Rattle.qh_qtd.specs.declared.qtd.Qtd.{Qtd}
use Rattle.qh_qtd.specs.declared.queue_head.Qh.{Qh}
use Rattle.hc_copy.specs.Overlay.{advanced, settled_queue, moved}
use Rattle.hc_copy.specs.WriteBack.{moved_by}
use Rattle.async_walk.specs.declared.state.WalkStep.{WalkStep}
use Rattle.async_walk.specs.Rows.{WalkPlace}
use Rattle.law_structures.specs.lent_structures.Structures.{Structure, QueueHead, Element, Buffer, Structures, StructureSets, put}
use Rattle.law_structures.specs.lent_structures.Changes.{relinked, overwritten}
use Rattle.law_structures.proofs.lemmas.lent_structures.Names.{names_differ, put_same, put_else, put_beside}
use Rattle.law_structures.specs.lent_structures.WriteBack.{Received, Nothing, Into, IsReceived, received_parts, qtd_after, parts_back}
use Rattle.law_structures.proofs.lemmas.lent_structures.WrittenBack.{head_is_no_buffer, element_is_no_buffer, element_is_no_head, received_else}
use Rattle.law_ring.specs.Hand.{Copy, Settlement, settled_queue_of, Hand, Copied}
use Rattle.claims_base.specs.Controller.{Base}
use Rattle.law_ring.specs.Ring.{IsCopied, IsInHand, IsRing}
use Rattle.law_ring.specs.Effects.{received_into, Effect, reads, passes, ends, takes, makes, writes_back}
use Rattle.law_driver_ring.specs.Inventory.{Sort, sort_of, sorts_of, SameSorts, IsBufferTold, AreTold, IsDriven}

-- ---- one structure in the place of another of its kind

pub same_put : (parts : StructureSets) (n a : ℕ) (s new : Structure) → parts n a ≡ Some s → sort_of new ≡ sort_of s → SameSorts parts (put parts n a new)
same_put parts n a s new here same k b =
    ⊎_elim (λ (owner : k ≡ n).
    ⊎_elim (λ (name : b ≡ a).
    ap (λ (i : ℕ). sorts_of (put parts n a new) i b) owner ∙ ap (sorts_of (put parts n a new) n) name ∙ ap (option_map sort_of) (put_same parts n a new) ∙ ap Some same
    ∙ sym (ap (λ (i : ℕ). sorts_of parts i b) owner ∙ ap (sorts_of parts n) name ∙ ap (option_map sort_of) here))
    (λ (differs : b ≢ a). ap (λ (i : ℕ). sorts_of (put parts n a new) i b) owner ∙ ap (option_map sort_of) (put_else parts n a new b differs) ∙ sym (ap (λ (i : ℕ). sorts_of parts i b) owner))
    (cases_eq b a))
    (λ (differs : k ≢ n). ap (λ (part : Structures). option_map sort_of (part b)) (put_beside parts n a new k differs)) (cases_eq k n)

pub same_both : (parts mid now : StructureSets) → SameSorts parts mid → SameSorts mid now → SameSorts parts now
same_both parts mid now one two n a = two n a ∙ one n a

pub same_parts : (parts now : StructureSets) → now ≡ parts → SameSorts parts now
same_parts parts now same n a = ap (λ (x : StructureSets). sorts_of x n a) same

-- ---- a write-back

received_same : (parts : StructureSets) (n : ℕ) (c : Qh) (got : List ℕ) (r : Received) → IsReceived (parts n) c got r → SameSorts parts (received_parts parts n got r)
received_same parts n c got Nothing none = λ k b. refl
received_same parts n c got (Into pages k bs j) into = same_put parts n (place pages k) (Buffer pages k bs) (Buffer pages k (overwritten bs j got)) into.buffer refl

pub back_same : (parts : StructureSets) (n a : ℕ) (q c : Qh) (count : ℕ) (got : List ℕ) (r : Received) (t : Qtd) → parts n a ≡ Some (QueueHead q) → parts n c.current ≡ Some (Element t) → IsReceived (parts n) c got r → SameSorts parts (parts_back parts n a q c count got r t)
back_same parts n a q c count got r t head element received =
    let one = received_parts parts n got r in
    let two = put one n a (QueueHead (relinked q (moved c count))) in
    let head_there = received_else parts n c got r a (QueueHead q) received head (head_is_no_buffer q) in
    let element_there = received_else parts n c got r c.current (Element t) received element (element_is_no_buffer t) in
    same_both parts one (parts_back parts n a q c count got r t) (received_same parts n c got r received)
    (same_both one two (parts_back parts n a q c count got r t) (same_put one n a (QueueHead q) (QueueHead (relinked q (moved c count))) head_there refl)
    (same_put two n c.current (Element t) (Element (qtd_after (moved c count) t))
    (put_else one n a (QueueHead (relinked q (moved c count))) c.current (names_differ (parts n) c.current a (Element t) (QueueHead q) element head (element_is_no_head t q)) ∙ element_there) refl))

-- ---- an event of the ring's walk

copied_there : (base : Base) (member : ℕ → Bool) (parts : StructureSets) (hand : Hand) (p : WalkPlace) (c : Copy) → IsRing base member parts hand p → hand ≡ Copied c → IsCopied member parts c
copied_there base member parts hand p c k is = subst (IsInHand member parts p.walk.reply) is k.in_hand

settled_current : (c : Copy) (s : Settlement) → (settled_queue_of c s).current ≡ c.queue.current
unfolding settled_queue
settled_current c s = refl

pub effect_same : {W : Type 0} (transacts : W → Ask → List ℕ → Reply → W → Type 0) (base : Base) (member : ℕ → Bool) (parts : StructureSets) (hand : Hand) (p : WalkPlace) (wire after : W) (now : StructureSets) (later : Hand) (kind : WalkStep) → IsRing base member parts hand p → Effect transacts parts hand wire after now later kind → SameSorts parts now
effect_same transacts base member parts hand p wire after now later _ k (reads r same quiet) = same_parts parts now same
effect_same transacts base member parts hand p wire after now later _ k (passes r same quiet) = same_parts parts now same
effect_same transacts base member parts hand p wire after now later _ k (ends r same quiet) = same_parts parts now same
effect_same transacts base member parts hand p wire after now later _ k (makes r same) = same_parts parts now same
effect_same transacts base member parts hand p wire after now later _ k (takes r quiet) =
    let c = copied_there base member parts hand p r.copy k r.in_hand in
    subst (SameSorts parts) (sym r.now_is) (same_put parts r.copy.at r.copy.at (QueueHead r.copy.queue) (QueueHead (advanced r.copy.queue r.element r.qtd)) c.here refl)
effect_same transacts base member parts hand p wire after now later _ k (writes_back r quiet) =
    let c = settled_there base member parts hand p r.copy r.settled k r.in_hand in
    subst (SameSorts parts) (sym r.now_is)
    (back_same parts r.copy.at r.copy.at r.copy.queue (settled_queue_of r.copy r.settled) (moved_by r.settled.outcome) r.settled.got (received_into (parts r.copy.at) r.copy.queue r.element r.settled.got) r.element c.here
    (ap (parts r.copy.at) (settled_current r.copy r.settled) ∙ r.here) r.received_is)

-- ---- the inventory is told by kinds

buffer_told : (slot : ℕ → Slot) (sorts now : ℕ → Option Sort) (cs : List ℕ) → ((a : ℕ) → now a ≡ sorts a) → IsBufferTold slot sorts cs → IsBufferTold slot now cs
buffer_told slot sorts now [] same told = tt
buffer_told slot sorts now (c ∷ cs) same told = λ lent. same (32 * c) ∙ told lent

pieces_told : (v : Views) (sorts now : ℕ → Option Sort) (b n : ℕ) → ((a : ℕ) → now a ≡ sorts a) → AreTold v sorts b n → AreTold v now b n
pieces_told v sorts now b zero same told = tt
pieces_told v sorts now b (suc n) same told =
    (record { element = λ lent. same (32 * b) ∙ told.0.element lent; buffer = buffer_told v.slot sorts now (v.note b).buffer same told.0.buffer }, pieces_told v sorts now (v.note b).next n same told.1)

pub driven_same : (v : Views) (parts now : StructureSets) → SameSorts parts now → IsDriven v (sorts_of parts) → IsDriven v (sorts_of now)
driven_same v parts now same k = record {
  list = same 0 0 ∙ k.list;
  head = same (32 * head_block) (32 * head_block) ∙ k.head;
  queue = λ e x is lent. same (32 * x.queue) (32 * x.queue) ∙ k.queue e x is lent;
  dummy = λ e x is lent. same (32 * x.queue) (32 * x.dummy) ∙ k.dummy e x is lent;
  pieces = λ t y x is. pieces_told v (sorts_of parts (32 * x.queue)) (sorts_of now (32 * x.queue)) y.first y.qtds (same (32 * x.queue)) (k.pieces t y x is);
  only = λ n a s there. k.only n a s (sym (same n a) ∙ there);
}
