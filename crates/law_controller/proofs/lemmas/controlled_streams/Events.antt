-- Each event of the walk, and each of the controller.
use Rattle.std.proofs.Common.{◌≡◌, ℕ, Bool, true, List, Some, ap, refl, sym, subst, ◌∙◌}
use Rattle.law_controller.proofs.Common.{copied_in_hand}
use Rattle.law_ring.proofs.Common.{ended_after}
use Rattle.usb_base.specs.declared.packets.Ask.{Ask}
use Rattle.usb_base.specs.declared.packets.Reply.{Reply}
use Rattle.mem_bytes.specs.Bytes.{place}
use Rattle.qh_qtd.specs.declared.qtd.Qtd.{Qtd}
use Rattle.qh_qtd.specs.declared.queue_head.Qh.{Qh}
use Rattle.hc_copy.specs.Overlay.{advanced, settled_queue, moved}
use Rattle.hc_copy.specs.WriteBack.{moved_by}
use Rattle.async_walk.specs.declared.state.WalkStep.{WalkStep}
use Rattle.async_walk.specs.Rows.{WalkPlace}
use Rattle.hc_core.specs.Controller.{Content, walk_place}
use Rattle.law_structures.specs.lent_structures.Structures.{QueueHead, Element, Buffer, StructureSets, put}
use Rattle.law_structures.specs.lent_structures.Changes.{relinked, overwritten}
use Rattle.law_structures.proofs.lemmas.lent_structures.Names.{names_differ, put_else}
use Rattle.law_structures.proofs.lemmas.lent_structures.Storing.{length-overwritten}
use Rattle.law_structures.specs.lent_structures.WriteBack.{Received, Nothing, Into, IsReceived, received_parts, qtd_after, parts_back}
use Rattle.law_structures.proofs.lemmas.lent_structures.WrittenBack.{head_is_no_buffer, element_is_no_buffer, element_is_no_head, received_else}
use Rattle.law_structures.specs.lent_structures.Sound.{IsWorking, IsSoundQueue, IsMember}
use Rattle.law_structures.proofs.lemmas.lent_structures.Altering.{found_queue, found_element}
use Rattle.law_ring.specs.Hand.{Copy, Settlement, settled_queue_of, Hand, Settled}
use Rattle.claims_base.specs.Controller.{Base}
use Rattle.law_ring.specs.Ring.{IsCopied, IsSettled, IsInHand, IsRing}
use Rattle.law_ring.specs.Effects.{received_into, Effect, reads, passes, ends, takes, makes, writes_back, WritesBack}
use Rattle.law_controller.specs.controlled_streams.Control.{IsControlled, ControlEffect, a_microframe, a_step}
use Rattle.law_controller.specs.controlled_streams.Kept.{bare, KeepsEach}
use Rattle.law_controller.proofs.lemmas.controlled_streams.Keeping.{kept_head, kept_element, kept_buffer, kept_each, kept_same, kept_each_both, kept_put}

-- ---- a queue head's other fields

advanced_bare : (q : Qh) (a : ℕ) (t : Qtd) → bare (advanced q a t) ≡ bare q
unfolding advanced
advanced_bare q a t = refl

written_bare : (c : Copy) (z : Settlement) (n : ℕ) → bare (relinked c.queue (moved (settled_queue_of c z) n)) ≡ bare c.queue
unfolding moved settled_queue
written_bare c z n = refl

settled_current : (c : Copy) (z : Settlement) → (settled_queue_of c z).current ≡ c.queue.current
unfolding settled_queue
settled_current c z = refl

-- ---- a write-back

received_kept : (parts : StructureSets) (n : ℕ) (c : Qh) (got : List ℕ) (r : Received) → IsReceived (parts n) c got r → KeepsEach parts (received_parts parts n got r)
received_kept parts n c got Nothing none = kept_each parts
received_kept parts n c got (Into pages k bs j) into =
    kept_put parts n (place pages k) (Buffer pages k (overwritten bs j got)) (kept_buffer (parts n) (place pages k) pages k bs (overwritten bs j got) into.buffer (length-overwritten bs j got into.fits))

back_kept : (parts : StructureSets) (n a : ℕ) (q c : Qh) (count : ℕ) (got : List ℕ) (r : Received) (t : Qtd) → bare (relinked q (moved c count)) ≡ bare q → t.token.active ≡ true → parts n a ≡ Some (QueueHead q) → parts n c.current ≡ Some (Element t) → IsReceived (parts n) c got r → KeepsEach parts (parts_back parts n a q c count got r t)
back_kept parts n a q c count got r t same on head element received =
    let x : Qh = moved c count in
    let one : StructureSets = received_parts parts n got r in
    let two : StructureSets = put one n a (QueueHead (relinked q x)) in
    let head_there : one n a ≡ Some (QueueHead q) = received_else parts n c got r a (QueueHead q) received head (head_is_no_buffer q) in
    let element_there : one n c.current ≡ Some (Element t) = received_else parts n c got r c.current (Element t) received element (element_is_no_buffer t) in
    let element_two : two n c.current ≡ Some (Element t) =
    put_else one n a (QueueHead (relinked q x)) c.current (names_differ (parts n) c.current a (Element t) (QueueHead q) element head (element_is_no_head t q)) ∙ element_there in
    kept_each_both parts one (parts_back parts n a q c count got r t) (received_kept parts n c got r received)
    (kept_each_both one two (parts_back parts n a q c count got r t) (kept_put one n a (QueueHead (relinked q x)) (kept_head (one n) a q (relinked q x) head_there same))
    (kept_put two n c.current (Element (qtd_after x t)) (kept_element (two n) c.current t (qtd_after x t) element_two on (ended_after x t x.token.active refl))))

-- ---- an event of the walk

in_settled : (base : Base) (member : ℕ → Bool) (parts : StructureSets) (hand : Hand) (p : WalkPlace) (c : Copy) (z : Settlement) → IsRing base member parts hand p → hand ≡ Settled c z → IsCopied member parts c × IsSettled c.queue p.walk.reply z
in_settled base member parts hand p c z k is = subst (IsInHand member parts p.walk.reply) is k.in_hand

-- the qTD that is worked on is active
works_active : (base : Base) (member : ℕ → Bool) (parts : StructureSets) (hand : Hand) (p : WalkPlace) (c : Copy) (t : Qtd) → IsRing base member parts hand p → IsCopied member parts c → c.queue.token.active ≡ true → parts c.at c.queue.current ≡ Some (Element t) → t.token.active ≡ true
works_active base member parts hand p c t k copied on here =
    let m : IsMember member c.at (parts c.at) = k.members c.at copied.on in
    let same : m.queue ≡ c.queue = found_queue (parts c.at c.at) m.queue c.queue m.here copied.here in
    let sound : IsSoundQueue (parts c.at) c.queue = subst (IsSoundQueue (parts c.at)) same m.sound in
    let w : IsWorking (parts c.at) c.queue = sound.work on in
    ap (λ (x : Qtd). x.token.active) (found_element (parts c.at c.queue.current) t w.element here w.here) ∙ w.published

wrote_kept : (base : Base) (member : ℕ → Bool) (parts : StructureSets) (hand : Hand) (p : WalkPlace) (now : StructureSets) (later : Hand) → IsRing base member parts hand p → WritesBack parts hand now later → KeepsEach parts now
wrote_kept base member parts hand p now later k r =
    let both : IsCopied member parts r.copy × IsSettled r.copy.queue p.walk.reply r.settled = in_settled base member parts hand p r.copy r.settled k r.in_hand in
    subst (KeepsEach parts) (sym r.now_is)
    (back_kept parts r.copy.at r.copy.at r.copy.queue (settled_queue_of r.copy r.settled) (moved_by r.settled.outcome) r.settled.got (received_into (parts r.copy.at) r.copy.queue r.element r.settled.got) r.element
    (written_bare r.copy r.settled (moved_by r.settled.outcome)) (works_active base member parts hand p r.copy r.element k both.0 both.1.works r.here)
    both.0.here (ap (parts r.copy.at) (settled_current r.copy r.settled) ∙ r.here) r.received_is)

pub effect_keeps : {W : Type 0} (transacts : W → Ask → List ℕ → Reply → W → Type 0) (base : Base) (member : ℕ → Bool) (parts : StructureSets) (hand : Hand) (p : WalkPlace) (wire after : W) (now : StructureSets) (later : Hand) (kind : WalkStep) → IsRing base member parts hand p → Effect transacts parts hand wire after now later kind → KeepsEach parts now
effect_keeps transacts base member parts hand p wire after now later _ k (reads r same quiet) = kept_same parts now same
effect_keeps transacts base member parts hand p wire after now later _ k (passes r same quiet) = kept_same parts now same
effect_keeps transacts base member parts hand p wire after now later _ k (ends r same quiet) = kept_same parts now same
effect_keeps transacts base member parts hand p wire after now later _ k (makes r same) = kept_same parts now same
effect_keeps transacts base member parts hand p wire after now later _ k (takes r quiet) =
    let c = copied_in_hand base member parts hand p r.copy k r.in_hand in
    let new : Qh = advanced r.copy.queue r.element r.qtd in
    subst (KeepsEach parts) (sym r.now_is) (kept_put parts r.copy.at r.copy.at (QueueHead new) (kept_head (parts r.copy.at) r.copy.at r.copy.queue new c.here (advanced_bare r.copy.queue r.element r.qtd)))
effect_keeps transacts base member parts hand p wire after now later _ k (writes_back r quiet) = wrote_kept base member parts hand p now later k r

-- ---- an event of the controller

pub control_keeps : {W : Type 0} (begins : W → ℕ → Bool → W → Type 0) (transacts : W → Ask → List ℕ → Reply → W → Type 0) (base : Base) (member : ℕ → Bool) (parts : StructureSets) (hand : Hand) (c : Content) (wire after : W) (now : StructureSets) (later : Hand) → IsControlled base member parts hand c → ControlEffect begins transacts parts hand wire after now later → KeepsEach parts now
control_keeps begins transacts base member parts hand c wire after now later k (a_microframe b) = kept_same parts now b.parts_stay
control_keeps begins transacts base member parts hand c wire after now later k (a_step w) = effect_keeps transacts base member parts hand (walk_place c) wire after now later w.kind k.ring w.effect
