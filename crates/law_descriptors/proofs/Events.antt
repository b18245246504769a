-- What an event of the ring's walk leaves of each structure: its kind, how far it reaches, and that descriptors are as they were.
use Rattle.std.proofs.Common.{◌≡◌, ◌≢◌, ℕ, ◌+◌, ◌≤◌, Bool, true, false, List, length, Option, Some, option_map, ap, refl, sym, subst, ◌∙◌, ⊎_elim}
use Rattle.std.proofs.lemmas.Bool.{cases_eq}
use Rattle.std.proofs.lemmas.Option.{same_Some}
use Rattle.law_ring.proofs.Common.{received_beside}
use Rattle.law_driver_ring.proofs.Common.{extents_same, extents_buffer}
use Rattle.usb_base.specs.declared.packets.Ask.{Ask}
use Rattle.usb_base.specs.declared.packets.Reply.{Reply}
use Rattle.mem_bytes.specs.Bytes.{place}
use Rattle.qh_qtd.specs.declared.qtd.Qtd.{Qtd}
use Rattle.qh_qtd.specs.declared.queue_head.Qh.{Qh}
use Rattle.hc_copy.specs.Overlay.{advanced, moved}
use Rattle.hc_copy.specs.WriteBack.{moved_by as queue_moved_by}
use Rattle.async_walk.specs.declared.state.WalkStep.{WalkStep}
use Rattle.async_walk.specs.Rows.{WalkPlace}
use Rattle.law_structures.specs.lent_structures.Structures.{Structure, QueueHead, Element, Buffer, Isochronous, SplitIsochronous, Structures, StructureSets, put}
use Rattle.law_structures.specs.lent_structures.Changes.{relinked, overwritten}
use Rattle.law_structures.proofs.lemmas.lent_structures.Names.{names_differ, put_else, put_beside}
use Rattle.law_structures.proofs.lemmas.lent_structures.Storing.{length-overwritten}
use Rattle.law_structures.specs.lent_structures.WriteBack.{Received, Nothing, Into, IsReceived, received_parts, qtd_after, parts_back}
use Rattle.law_structures.specs.lent_structures.Alters.{HasBytes}
use Rattle.law_structures.proofs.lemmas.lent_structures.Altering.{same_buffer}
use Rattle.law_ring.specs.Hand.{settled_queue_of, Hand}
use Rattle.claims_base.specs.Controller.{Base}
use Rattle.law_ring.specs.Ring.{IsCopied, IsSettled, IsInHand, IsRing}
use Rattle.law_ring.specs.Effects.{received_into, Effect, reads, passes, ends, takes, makes, writes_back}
use Rattle.law_driver_ring.specs.Inventory.{OfBuffer, sort_of, SameSorts}
use Rattle.law_driver_ring.proofs.Sorts.{same_put, effect_same}
use Rattle.law_driver_ring.specs.Extents.{KeepExtents}
use Rattle.law_driver_ring.proofs.Extending.{walk_keeps_extents}
use Rattle.law_frames.specs.Met.{IsBuffered}
use Rattle.law_descriptors.specs.Described.{HasDescriptor}
use Rattle.law_descriptors.specs.Both.{KeepDescriptors}
use Rattle.law_descriptors.specs.PartLaws.{RingKeeps}

-- ---- a buffer is there still

pub buffer_still : (parts now : StructureSets) (n a : ℕ) (pages : List ℕ) (k : ℕ) (bs : List ℕ) → SameSorts parts now → KeepExtents parts now → parts n a ≡ Some (Buffer pages k bs) → HasBytes (now n) a pages k (length bs)
buffer_still parts now n a pages k bs sorts extents here = by_case (now n a) refl (sorts n a ∙ ap (option_map sort_of) here)
  where
    of_buffer : (ps : List ℕ) (j : ℕ) (ds : List ℕ) → now n a ≡ Some (Buffer ps j ds) → HasBytes (now n) a pages k (length bs)
    of_buffer ps j ds is =
        let was = extents.buffers n a ps j ds is in
        let same = same_buffer ps j was.bytes pages k bs (same_Some (Buffer ps j was.bytes) (Buffer pages k bs) (sym was.here ∙ here)) in
        record {
          bytes = ds;
          here = is ∙ ap (λ (x : List ℕ). Some (Buffer x j ds)) same.pages_is ∙ ap (λ (x : ℕ). Some (Buffer pages x ds)) same.start_is;
          size = sym was.size ∙ ap length same.bytes_is;
        }

    by_case : (o : Option Structure) → now n a ≡ o → option_map sort_of o ≡ Some OfBuffer → HasBytes (now n) a pages k (length bs)
    by_case (Some (Buffer ps j ds)) is sort = of_buffer ps j ds is
    by_case _ is sort = absurd (cc)

pub buffered_still : (parts now : StructureSets) (n : ℕ) (pages : List ℕ) (from count : ℕ) → SameSorts parts now → KeepExtents parts now → IsBuffered (parts n) pages from count → IsBuffered (now n) pages from count
buffered_still parts now n pages from count sorts extents is =
    let there = buffer_still parts now n (place pages is.start) pages is.start is.bytes sorts extents is.here in
    record { start = is.start; bytes = there.bytes; here = there.here; after = is.after; within = subst (λ (x : ℕ). from + count ≤ is.start + x) (sym there.size) is.within }

-- ---- received bytes are put

-- they fit into a buffer that is there
abbrev pub Fit : Structures → List ℕ → Received → Type 0
Fit part got Nothing = Unit {0}
Fit part got (Into pages k bs j) = (part (place pages k) ≡ Some (Buffer pages k bs)) × (j + length got ≤ length bs)

pub fit_received : (part : Structures) (c : Qh) (got : List ℕ) (r : Received) → IsReceived part c got r → Fit part got r
fit_received part c got Nothing is = tt
fit_received part c got (Into pages k bs j) is = (is.buffer, is.fits)

pub received_sorts : (parts : StructureSets) (n : ℕ) (got : List ℕ) (r : Received) → Fit (parts n) got r → SameSorts parts (received_parts parts n got r)
received_sorts parts n got Nothing fit = λ k b. refl
received_sorts parts n got (Into pages k bs j) fit = same_put parts n (place pages k) (Buffer pages k bs) (Buffer pages k (overwritten bs j got)) fit.0 refl

pub received_extents : (parts : StructureSets) (n : ℕ) (got : List ℕ) (r : Received) → Fit (parts n) got r → KeepExtents parts (received_parts parts n got r)
received_extents parts n got Nothing fit = extents_same parts parts refl
received_extents parts n got (Into pages k bs j) fit = extents_buffer parts n (place pages k) pages k bs (overwritten bs j got) fit.0 (length-overwritten bs j got fit.1)

pub received_there : (parts : StructureSets) (n : ℕ) (got : List ℕ) (r : Received) (a : ℕ) (s : Structure) → Fit (parts n) got r → ((pages : List ℕ) (k : ℕ) (bs : List ℕ) → s ≡ Buffer pages k bs → ⊥) → parts n a ≡ Some s → received_parts parts n got r n a ≡ Some s
received_there parts n got Nothing a s fit other here = here
received_there parts n got (Into pages k bs j) a s fit other here =
    put_else parts n (place pages k) (Buffer pages k (overwritten bs j got)) a (names_differ (parts n) a (place pages k) s (Buffer pages k bs) here fit.0 (other pages k bs)) ∙ here

-- ---- descriptors

pub descriptors_same : (parts now : StructureSets) → now ≡ parts → KeepDescriptors parts now
descriptors_same parts now same split n has = subst (λ (x : StructureSets). HasDescriptor split (x n) n) (sym same) has

-- where one owner's structures change at most
pub descriptors_beside : (parts now : StructureSets) (at : ℕ) → ((k : ℕ) → k ≢ at → now k ≡ parts k) → ((split : Bool) → HasDescriptor split (parts at) at → HasDescriptor split (now at) at) → KeepDescriptors parts now
descriptors_beside parts now at beside there split n has =
    ⊎_elim (λ (same : n ≡ at).
    subst (λ (i : ℕ). HasDescriptor split (now i) i) (sym same) (there split (subst (λ (i : ℕ). HasDescriptor split (parts i) i) same has)))
    (λ (differs : n ≢ at). subst (λ (part : Structures). HasDescriptor split part n) (sym (beside n differs)) has) (cases_eq n at)

head_is_no_itd : (q : Qh) (s : Structure) → Some (QueueHead q) ≡ Some s → sort_of s ≡ sort_of (QueueHead q)
head_is_no_itd q s e = ap sort_of (sym (same_Some (QueueHead q) s e))

pub head_is_no_descriptor : (split : Bool) (part : Structures) (n : ℕ) (q : Qh) → part n ≡ Some (QueueHead q) → HasDescriptor split part n → ⊥
head_is_no_descriptor true part n q here has = let e = head_is_no_itd q (SplitIsochronous has.sitd) (sym here ∙ has.here) in cc
head_is_no_descriptor false part n q here has = let e = head_is_no_itd q (Isochronous has.itd) (sym here ∙ has.here) in cc

pub queue_keeps : (parts now : StructureSets) (at : ℕ) (q : Qh) → ((k : ℕ) → k ≢ at → now k ≡ parts k) → parts at at ≡ Some (QueueHead q) → KeepDescriptors parts now
queue_keeps parts now at q beside here = descriptors_beside parts now at beside (λ split has. absurd (head_is_no_descriptor split (parts at) at q here has))

pub back_beside : (parts : StructureSets) (n a : ℕ) (q c : Qh) (count : ℕ) (got : List ℕ) (r : Received) (t : Qtd) (k : ℕ) → k ≢ n → parts_back parts n a q c count got r t k ≡ parts k
back_beside parts n a q c count got r t k differs =
    let one = received_parts parts n got r in
    let two = put one n a (QueueHead (relinked q (moved c count))) in
    put_beside two n c.current (Element (qtd_after (moved c count) t)) k differs ∙ put_beside one n a (QueueHead (relinked q (moved c count))) k differs ∙ received_beside parts n got r k differs

-- ---- an event of the ring's walk

ring_descriptors : {W : Type 0} (transacts : W → Ask → List ℕ → Reply → W → Type 0) (base : Base) (member : ℕ → Bool) (parts : StructureSets) (hand : Hand) (p : WalkPlace) (wire after : W) (now : StructureSets) (later : Hand) (kind : WalkStep) → IsRing base member parts hand p → Effect transacts parts hand wire after now later kind → KeepDescriptors parts now
ring_descriptors transacts base member parts hand p wire after now later _ k (reads r same quiet) = descriptors_same parts now same
ring_descriptors transacts base member parts hand p wire after now later _ k (passes r same quiet) = descriptors_same parts now same
ring_descriptors transacts base member parts hand p wire after now later _ k (ends r same quiet) = descriptors_same parts now same
ring_descriptors transacts base member parts hand p wire after now later _ k (makes r same) = descriptors_same parts now same
ring_descriptors transacts base member parts hand p wire after now later _ k (takes r quiet) =
    let c : IsCopied member parts r.copy = subst (IsInHand member parts p.walk.reply) r.in_hand k.in_hand in
    let new : Structure = QueueHead (advanced r.copy.queue r.element r.qtd) in
    subst (KeepDescriptors parts) (sym r.now_is)
    (queue_keeps parts (put parts r.copy.at r.copy.at new) r.copy.at r.copy.queue (λ i differs. put_beside parts r.copy.at r.copy.at new i differs) c.here)
ring_descriptors transacts base member parts hand p wire after now later _ k (writes_back r quiet) =
    let c : IsCopied member parts r.copy × IsSettled r.copy.queue p.walk.reply r.settled = subst (IsInHand member parts p.walk.reply) r.in_hand k.in_hand in
    let q : Qh = settled_queue_of r.copy r.settled in
    let n : ℕ = queue_moved_by r.settled.outcome in
    let into : Received = received_into (parts r.copy.at) r.copy.queue r.element r.settled.got in
    subst (KeepDescriptors parts) (sym r.now_is)
    (queue_keeps parts (parts_back parts r.copy.at r.copy.at r.copy.queue q n r.settled.got into r.element) r.copy.at r.copy.queue
    (λ i differs. back_beside parts r.copy.at r.copy.at r.copy.queue q n r.settled.got into r.element i differs) c.0.here)

pub ring_keeps : {W : Type 0} (transacts : W → Ask → List ℕ → Reply → W → Type 0) → RingKeeps transacts
ring_keeps transacts base member parts hand p wire after now later kind k effect = record {
  sorts = effect_same transacts base member parts hand p wire after now later kind k effect;
  extents = walk_keeps_extents transacts member parts hand p.walk.reply wire after now later kind k.in_hand effect;
  descriptors = ring_descriptors transacts base member parts hand p wire after now later kind k effect;
}
