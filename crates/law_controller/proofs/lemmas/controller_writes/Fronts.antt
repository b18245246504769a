-- Each event of the ring's walk leaves the first three words of every queue head.
use Rattle.std.proofs.Common.{◌≡◌, ◌≢◌, ℕ, ◌+◌, ◌*◌, ◌<◌, Bool, List, take, get_or, Option, Some, ap, refl, sym, subst, ◌∙◌, ⊎_elim, arith}
use Rattle.std.proofs.lemmas.Bool.{cases_eq}
use Rattle.std.proofs.lemmas.List.{get_or-take}
use Rattle.law_controller.proofs.Common.{copied_in_hand}
use Rattle.law_ring.proofs.Common.{element_no_head}
use Rattle.usb_base.specs.declared.packets.Ask.{Ask}
use Rattle.usb_base.specs.declared.packets.Reply.{Reply}
use Rattle.word_mem.specs.Memory.{Mem, word_at}
use Rattle.word_mem.proofs.Words.{get_or-words_in}
use Rattle.mem_bytes.specs.Bytes.{place}
use Rattle.qh_qtd.specs.declared.qtd.Qtd.{Qtd}
use Rattle.qh_qtd.specs.declared.queue_head.Qh.{Qh}
use Rattle.qh_qtd.specs.QueueHead.{qh_words}
use Rattle.hc_copy.specs.Overlay.{advanced, settled_queue, moved}
use Rattle.hc_copy.specs.WriteBack.{moved_by}
use Rattle.async_walk.specs.declared.state.WalkStep.{WalkStep}
use Rattle.async_walk.specs.Rows.{WalkPlace}
use Rattle.law_structures.specs.lent_structures.Structures.{Structure, QueueHead, Element, Buffer, HoldsQueueHead, Structures, StructureSets, put, Tells}
use Rattle.law_structures.specs.lent_structures.Changes.{relinked, overwritten}
use Rattle.law_structures.proofs.lemmas.lent_structures.Names.{names_differ, put_same, put_else, put_beside}
use Rattle.law_structures.specs.lent_structures.WriteBack.{Received, Nothing, Into, IsReceived, received_parts, qtd_after, parts_back}
use Rattle.law_structures.proofs.lemmas.lent_structures.WrittenBack.{head_is_no_buffer, element_is_no_buffer, element_is_no_head, received_else}
use Rattle.law_structures.proofs.lemmas.lent_structures.Altering.{found_queue}
use Rattle.law_ring.specs.Hand.{Copy, Settlement, settled_queue_of, Hand, Settled}
use Rattle.claims_base.specs.Controller.{Base}
use Rattle.law_ring.specs.Ring.{IsCopied, IsSettled, IsInHand, IsRing}
use Rattle.law_ring.specs.Effects.{received_into, Effect, reads, passes, ends, takes, makes, writes_back}

-- ---- the queue head that stands there has the same front

pub record HasFront (o : Option Structure) (q : Qh) : Type 0 where
  pub queue : Qh
  pub here : o ≡ Some (QueueHead queue)
  pub front : take 3 (qh_words queue) ≡ take 3 (qh_words q)

abbrev pub KeepsFronts : StructureSets → StructureSets → Type 0
KeepsFronts parts now = (n a : ℕ) (q : Qh) → parts n a ≡ Some (QueueHead q) → HasFront (now n a) q

pub same_fronts : (parts now : StructureSets) → now ≡ parts → KeepsFronts parts now
same_fronts parts now same n a q here = record { queue = q; here = ap (λ (x : StructureSets). x n a) same ∙ here; front = refl }

pub both_fronts : (parts mid now : StructureSets) → KeepsFronts parts mid → KeepsFronts mid now → KeepsFronts parts now
both_fronts parts mid now one two n a q here =
    let first : HasFront (mid n a) q = one n a q here in
    let second : HasFront (now n a) first.queue = two n a first.queue first.here in
    record { queue = second.queue; here = second.here; front = second.front ∙ first.front }

-- a structure is put where another stood
pub put_fronts : (parts : StructureSets) (n a : ℕ) (new : Structure) → ((q : Qh) → parts n a ≡ Some (QueueHead q) → HasFront (Some new) q) → KeepsFronts parts (put parts n a new)
put_fronts parts n a new at k b q here =
    ⊎_elim (λ (owner : k ≡ n).
    ⊎_elim (λ (name : b ≡ a).
    let f : HasFront (Some new) q = at q (sym (ap (λ (i : ℕ). parts i b) owner ∙ ap (parts n) name) ∙ here) in
    record { queue = f.queue; here = ap (λ (i : ℕ). put parts n a new i b) owner ∙ ap (put parts n a new n) name ∙ put_same parts n a new ∙ f.here; front = f.front })
    (λ (differs : b ≢ a). record { queue = q; here = ap (λ (i : ℕ). put parts n a new i b) owner ∙ put_else parts n a new b differs ∙ sym (ap (λ (i : ℕ). parts i b) owner) ∙ here; front = refl })
    (cases_eq b a))
    (λ (differs : k ≢ n). record { queue = q; here = ap (λ (part : Structures). part b) (put_beside parts n a new k differs) ∙ here; front = refl }) (cases_eq k n)

-- a queue head with the same front, or another kind of structure
head_fronts : (parts : StructureSets) (n a : ℕ) (q new : Qh) → parts n a ≡ Some (QueueHead q) → take 3 (qh_words new) ≡ take 3 (qh_words q) → KeepsFronts parts (put parts n a (QueueHead new))
head_fronts parts n a q new here front =
    put_fronts parts n a (QueueHead new)
    (λ r found. record { queue = new; here = refl; front = front ∙ ap (λ (x : Qh). take 3 (qh_words x)) (found_queue (parts n a) q r here found) })

buffer_no_head : (o : Option Structure) (pages : List ℕ) (k : ℕ) (bs : List ℕ) (q : Qh) → o ≡ Some (Buffer pages k bs) → o ≡ Some (QueueHead q) → ⊥
buffer_no_head o pages k bs q one other = cc

element_fronts : (parts : StructureSets) (n a : ℕ) (t new : Qtd) → parts n a ≡ Some (Element t) → KeepsFronts parts (put parts n a (Element new))
element_fronts parts n a t new here = put_fronts parts n a (Element new) (λ q found. absurd (element_no_head (parts n a) t q here found))

-- ---- a write-back

received_fronts : (parts : StructureSets) (n : ℕ) (c : Qh) (got : List ℕ) (r : Received) → IsReceived (parts n) c got r → KeepsFronts parts (received_parts parts n got r)
received_fronts parts n c got Nothing none = same_fronts parts parts refl
received_fronts parts n c got (Into pages k bs j) into =
    put_fronts parts n (place pages k) (Buffer pages k (overwritten bs j got)) (λ q found. absurd (buffer_no_head (parts n (place pages k)) pages k bs q into.buffer found))

back_fronts : (parts : StructureSets) (n a : ℕ) (q c : Qh) (count : ℕ) (got : List ℕ) (r : Received) (t : Qtd) → parts n a ≡ Some (QueueHead q) → parts n c.current ≡ Some (Element t) → IsReceived (parts n) c got r
    → take 3 (qh_words (relinked q (moved c count))) ≡ take 3 (qh_words q) → KeepsFronts parts (parts_back parts n a q c count got r t)
back_fronts parts n a q c count got r t head element received front =
    let one = received_parts parts n got r in
    let two = put one n a (QueueHead (relinked q (moved c count))) in
    let head_there = received_else parts n c got r a (QueueHead q) received head (head_is_no_buffer q) in
    let element_there = received_else parts n c got r c.current (Element t) received element (element_is_no_buffer t) in
    both_fronts parts one (parts_back parts n a q c count got r t) (received_fronts parts n c got r received)
    (both_fronts one two (parts_back parts n a q c count got r t) (head_fronts one n a q (relinked q (moved c count)) head_there front)
    (element_fronts two n c.current t (qtd_after (moved c count) t)
    (put_else one n a (QueueHead (relinked q (moved c count))) c.current (names_differ (parts n) c.current a (Element t) (QueueHead q) element head (element_is_no_head t q)) ∙ element_there)))

-- ---- an event of the walk

settled_there : (base : Base) (member : ℕ → Bool) (parts : StructureSets) (hand : Hand) (p : WalkPlace) (c : Copy) (s : Settlement) → IsRing base member parts hand p → hand ≡ Settled c s → IsCopied member parts c
settled_there base member parts hand p c s k is = let both : IsCopied member parts c × IsSettled c.queue p.walk.reply s = subst (IsInHand member parts p.walk.reply) is k.in_hand in both.0

settled_current : (c : Copy) (s : Settlement) → (settled_queue_of c s).current ≡ c.queue.current
unfolding settled_queue
settled_current c s = refl

front_advanced : (q : Qh) (a : ℕ) (t : Qtd) → take 3 (qh_words (advanced q a t)) ≡ take 3 (qh_words q)
unfolding advanced qh_words
front_advanced q a t = refl

front_moved : (c : Copy) (s : Settlement) (n : ℕ) → take 3 (qh_words (relinked c.queue (moved (settled_queue_of c s) n))) ≡ take 3 (qh_words c.queue)
unfolding moved settled_queue qh_words
front_moved c s n = refl

pub effect_fronts : {W : Type 0} (transacts : W → Ask → List ℕ → Reply → W → Type 0) (base : Base) (member : ℕ → Bool) (parts : StructureSets) (hand : Hand) (p : WalkPlace) (wire after : W) (now : StructureSets) (later : Hand) (kind : WalkStep) → IsRing base member parts hand p → Effect transacts parts hand wire after now later kind → KeepsFronts parts now
effect_fronts transacts base member parts hand p wire after now later _ k (reads r same quiet) = same_fronts parts now same
effect_fronts transacts base member parts hand p wire after now later _ k (passes r same quiet) = same_fronts parts now same
effect_fronts transacts base member parts hand p wire after now later _ k (ends r same quiet) = same_fronts parts now same
effect_fronts transacts base member parts hand p wire after now later _ k (makes r same) = same_fronts parts now same
effect_fronts transacts base member parts hand p wire after now later _ k (takes r quiet) =
    let c = copied_in_hand base member parts hand p r.copy k r.in_hand in
    subst (KeepsFronts parts) (sym r.now_is) (head_fronts parts r.copy.at r.copy.at r.copy.queue (advanced r.copy.queue r.element r.qtd) c.here (front_advanced r.copy.queue r.element r.qtd))
effect_fronts transacts base member parts hand p wire after now later _ k (writes_back r quiet) =
    let c = settled_there base member parts hand p r.copy r.settled k r.in_hand in
    subst (KeepsFronts parts) (sym r.now_is)
    (back_fronts parts r.copy.at r.copy.at r.copy.queue (settled_queue_of r.copy r.settled) (moved_by r.settled.outcome) r.settled.got (received_into (parts r.copy.at) r.copy.queue r.element r.settled.got) r.element c.here
    (ap (parts r.copy.at) (settled_current r.copy r.settled) ∙ r.here) r.received_is (front_moved r.copy r.settled (moved_by r.settled.outcome)))

-- ---- in memory

head_word : (m : Mem) (parts : StructureSets) (n a : ℕ) (q : Qh) (i : ℕ) → Tells m parts → parts n a ≡ Some (QueueHead q) → i < 3 → word_at m (a + 4 * i) ≡ get_or (take 3 (qh_words q)) i 0
head_word m parts n a q i tells here below =
    let h : HoldsQueueHead m a q = tells.each n a (QueueHead q) here in
    sym (get_or-words_in m.words a 12 i (omega (arith, below))) ∙ ap (λ ws. get_or ws i 0) h.words ∙ sym (get_or-take 3 (qh_words q) i 0 below)

pub fronts_stay : (m new : Mem) (parts now : StructureSets) (n a : ℕ) (q : Qh) (i : ℕ) → Tells m parts → Tells new now → KeepsFronts parts now → parts n a ≡ Some (QueueHead q) → i < 3 → word_at new (a + 4 * i) ≡ word_at m (a + 4 * i)
fronts_stay m new parts now n a q i before after keeps here below =
    let f : HasFront (now n a) q = keeps n a q here in
    head_word new now n a f.queue i after f.here below ∙ ap (λ ws. get_or ws i 0) f.front ∙ sym (head_word m parts n a q i before here below)
