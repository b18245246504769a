-- The link of a structure is stored: memory is told, those that are met are sound, and a copy in hand is of what stands there now.
use Rattle.std.proofs.Common.{◌≡◌, ◌≢◌, ℕ, ◌+◌, ◌*◌, ◌%◌, Bool, true, false, ◌==◌, if◌then◌else◌, List, Option, Some, None, ap, refl, sym, subst, ◌∙◌, ⊎_elim, arith}
use Rattle.std.proofs.lemmas.Bool.{cases_eq, true≢false, eq-eqb, eqb-true}
use Rattle.std.proofs.lemmas.Option.{same_Some}
use Rattle.law_ring.proofs.Common.{relinked_sound, sound_still, settled_linked}
use Rattle.usb_base.specs.declared.packets.Reply.{Reply}
use Rattle.word_mem.specs.Memory.{Mem, with_word}
use Rattle.link_words.specs.declared.kinds.Link.{Link}
use Rattle.link_words.specs.declared.kinds.Link.TheVariants as links
use Rattle.link_words.specs.declared.fields.LinkBits.{LinkBits}
use Rattle.link_words.specs.Layout.{word_of, IsWordInRange, bits, is_set, high_bits}
use Rattle.link_words.specs.Fields.{link_rows}
use Rattle.link_words.specs.Links.{typed, link_of, link_read, link_fields, IsAligned, IsLinkWord}
use Rattle.link_words.proofs.LinkLaws.{link_word-read, word_of-fields, link_of-fields}
use Rattle.qh_qtd.specs.declared.queue_head.Qh.{Qh}
use Rattle.qh_qtd.specs.QueueHead.{IsQhInRange}
use Rattle.qh_qtd.proofs.QhLaws.{qh_words-link}
use Rattle.itd_sitd.specs.declared.slot.ItdSlot.{ItdSlot}
use Rattle.itd_sitd.specs.declared.itd.Itd.{Itd}
use Rattle.itd_sitd.specs.declared.sitd.Sitd.{Sitd}
use Rattle.itd_sitd.specs.Itd.{slot_of, IsItdInRange}
use Rattle.itd_sitd.specs.Sitd.{IsSitdInRange}
use Rattle.itd_sitd.proofs.ItdLaws.{itd_words-link}
use Rattle.itd_sitd.proofs.SitdLaws.{sitd_words-link}
use Rattle.mem_bytes.specs.Bytes.{place}
use Rattle.hc_copy.specs.Overlay.{settled_queue}
use Rattle.hc_iso.specs.declared.held.SplitOutcome.{SplitOutcome}
use Rattle.periodic_walk.specs.declared.state.HeldQueue.{HeldQueue}
use Rattle.periodic_walk.specs.declared.state.Hand.TheVariants as hands
use Rattle.periodic_walk.specs.Place.{FramePlace}
use Rattle.law_structures.specs.lent_structures.Structures.{Structure, QueueHead, Element, Buffer, Table, Isochronous, SplitIsochronous, Structures, StructureSets, with_structure, put, Holds, Tells}
use Rattle.law_structures.proofs.lemmas.lent_structures.Names.{names_differ, with_here, with_there, put_here, put_beside, put_same}
use Rattle.law_structures.proofs.lemmas.lent_structures.Writing.{word_put_queue, word_put_isochronous, word_put_split}
use Rattle.law_structures.specs.lent_structures.Sound.{IsSoundQueue}
use Rattle.law_structures.specs.lent_structures.Alters.{Alters}
use Rattle.law_structures.proofs.lemmas.lent_structures.Altering.{no_two, a_queue_head_alters_nothing}
use Rattle.law_ring.specs.Hand.{Copy}
use Rattle.law_ring.specs.Stores.{copy_linked}
use Rattle.law_ring.proofs.Driving.{copied_same}
use Rattle.law_frames.specs.Met.{Kind, AQueue, AnItd, ASitd, LeadsTo, IsBuffered, IsMetQueue, IsMetItd, IsMetSitd, IsMetAs}
use Rattle.law_frames.specs.FrameHand.{QueueSettlement, came, ItdCopy, SitdCopy, FrameHand, Nothing, OfQueue, OfSettled, OfItd, OfSitd, frame_held}
use Rattle.law_frames.specs.Frame.{HasSameExtent, IsQueueSettled, IsCopiedQueue, IsCopiedItd, IsCopiedSitd, IsTurned, IsInFrame, IsFrame}
use Rattle.law_frames.proofs.Queues.{an_altered_queue_part_is_sound}
use Rattle.law_controller.specs.frame_control.Both.{AreMet}
use Rattle.law_controller.specs.frame_stores.Stores.{HasLink, link_in, linked, itd_linked, sitd_linked, frame_linked}

-- ---- memory is told

abbrev IsInRangeWith : LinkBits → Structure → Type 0
IsInRangeWith l (QueueHead q) = IsQhInRange (record q { link = l })
IsInRangeWith l (Element t) = ⊥
IsInRangeWith l (Buffer pages start bytes) = ⊥
IsInRangeWith l (Table words) = ⊥
IsInRangeWith l (Isochronous v) = IsItdInRange (record v { link = l })
IsInRangeWith l (SplitIsochronous v) = IsSitdInRange (record v { link = l })

-- the other fields are in their ranges as before
range_linked : (m : Mem) (a : ℕ) (s : Structure) (l : LinkBits) → Holds m a s → HasLink s → IsWordInRange link_rows l → IsInRangeWith l s
range_linked m a (QueueHead q) l h has range = (range, h.range.1)
range_linked m a (Isochronous v) l h has range = record { eight = h.range.eight; fields = (range, h.range.fields.1) }
range_linked m a (SplitIsochronous v) l h has range = (range, h.range.1)
range_linked m a _ l h has range = has

first_told : (m : Mem) (parts : StructureSets) (n a : ℕ) (s : Structure) (l : LinkBits) → Tells m parts → parts n a ≡ Some s → IsInRangeWith l s → Tells (with_word m (a + 4 * 0) (word_of link_rows l)) (put parts n a (linked l s))
first_told m parts n a (QueueHead q) l told here range =
    word_put_queue m parts n a q (record q { link = l }) 0 (word_of link_rows l) told here (omega arith) (sym (qh_words-link q l)) range
first_told m parts n a (Isochronous v) l told here range =
    word_put_isochronous m parts n a v (record v { link = l }) 0 (word_of link_rows l) told here (omega arith) (sym (itd_words-link v l)) range
first_told m parts n a (SplitIsochronous v) l told here range =
    word_put_split m parts n a v (record v { link = l }) 0 (word_of link_rows l) told here (omega arith) (sym (sitd_words-link v l)) range
first_told m parts n a _ l told here range = absurd range

pub link_told : (m : Mem) (parts : StructureSets) (n a : ℕ) (s : Structure) (l : LinkBits) → Tells m parts → parts n a ≡ Some s → HasLink s → IsWordInRange link_rows l → Tells (with_word m a (word_of link_rows l)) (put parts n a (linked l s))
link_told m parts n a s l told here has range =
    let first : a + 4 * 0 ≡ a = omega arith in
    subst (λ (at : ℕ). Tells (with_word m at (word_of link_rows l)) (put parts n a (linked l s))) first
    (first_told m parts n a s l told here (range_linked m a s l (told.each n a s here) has range))

-- ---- what is met is sound

queue_linked : (met : ℕ → Option Kind) (n : ℕ) (part : Structures) (l : LinkBits) → (m : IsMetQueue met n part) → LeadsTo met (link_of l) → IsMetQueue met n (with_structure part n (linked l (QueueHead m.part_is.queue)))
queue_linked met n part l m link =
    let q : Qh = m.part_is.queue in
    let new : Qh = record q { link = l } in
    let now : Structures = with_structure part n (QueueHead new) in
    let alters : Alters part now = a_queue_head_alters_nothing part n q new m.part_is.here in
    let sound : IsSoundQueue now new = relinked_sound now q l (sound_still part now q alters
    (λ a t here. with_there part n (QueueHead new) a (no_two part a n (Element t) (QueueHead q) here m.part_is.here (λ e. cc)) ∙ here) m.part_is.sound) in
    let still = an_altered_queue_part_is_sound n part now new m.part_is alters (with_here part n (QueueHead new)) sound in
    record {
      part_is = record { queue = new; here = with_here part n (QueueHead new); sound = sound; elements = still.elements; own = still.own };
      link = link;
    }

-- a structure that is no buffer changes
pub buffered_with : (part : Structures) (n : ℕ) (s new : Structure) (pages : List ℕ) (from k : ℕ) → part n ≡ Some s → ((ps : List ℕ) (i : ℕ) (bs : List ℕ) → s ≢ Buffer ps i bs) → IsBuffered part pages from k → IsBuffered (with_structure part n new) pages from k
buffered_with part n s new pages from k here other b = record {
  start = b.start;
  bytes = b.bytes;
  here = with_there part n new (place pages b.start) (names_differ part (place pages b.start) n (Buffer pages b.start b.bytes) s b.here here (λ e. other pages b.start b.bytes (sym e))) ∙ b.here;
  after = b.after;
  within = b.within;
}

itd_met_linked : (met : ℕ → Option Kind) (n : ℕ) (part : Structures) (l : LinkBits) → (m : IsMetItd met n part) → LeadsTo met (link_of l) → IsMetItd met n (with_structure part n (linked l (Isochronous m.itd)))
itd_met_linked met n part l m link = record {
  itd = record m.itd { link = l };
  here = with_here part n (linked l (Isochronous m.itd));
  link = link;
  slots = λ u below on some. buffered_with part n (Isochronous m.itd) (linked l (Isochronous m.itd)) _ _ _ m.here (λ ps i bs e. cc) (m.slots u below on some);
}

sitd_met_linked : (met : ℕ → Option Kind) (n : ℕ) (part : Structures) (l : LinkBits) → (m : IsMetSitd met n part) → LeadsTo met (link_of l) → IsMetSitd met n (with_structure part n (linked l (SplitIsochronous m.sitd)))
sitd_met_linked met n part l m link = record {
  sitd = record m.sitd { link = l };
  here = with_here part n (linked l (SplitIsochronous m.sitd));
  link = link;
  bytes = λ on some. buffered_with part n (SplitIsochronous m.sitd) (linked l (SplitIsochronous m.sitd)) _ _ _ m.here (λ ps i bs e. cc) (m.bytes on some);
}

-- s is what stands there
with_linked : (part : Structures) (n : ℕ) (s t : Structure) (l : LinkBits) → part n ≡ Some s → part n ≡ Some t → with_structure part n (linked l s) ≡ with_structure part n (linked l t)
with_linked part n s t l one other = ap (λ (x : Structure). with_structure part n (linked l x)) (same_Some s t (sym one ∙ other))

met_linked : (met : ℕ → Option Kind) (n : ℕ) (part : Structures) (s : Structure) (l : LinkBits) (kind : Kind) → part n ≡ Some s → LeadsTo met (link_of l) → IsMetAs met n part kind → IsMetAs met n (with_structure part n (linked l s)) kind
met_linked met n part s l AQueue here link m = subst (IsMetQueue met n) (with_linked part n (QueueHead m.part_is.queue) s l m.part_is.here here) (queue_linked met n part l m link)
met_linked met n part s l AnItd here link m = subst (IsMetItd met n) (with_linked part n (Isochronous m.itd) s l m.here here) (itd_met_linked met n part l m link)
met_linked met n part s l ASitd here link m = subst (IsMetSitd met n) (with_linked part n (SplitIsochronous m.sitd) s l m.here here) (sitd_met_linked met n part l m link)

-- the part of one owner has changed
pub met_but_one : (met : ℕ → Option Kind) (parts now : StructureSets) (n : ℕ) → ((i : ℕ) → i ≢ n → now i ≡ parts i) → ((kind : Kind) → met n ≡ Some kind → IsMetAs met n (now n) kind) → AreMet met parts → AreMet met now
met_but_one met parts now n others here members i kind on =
    ⊎_elim (λ (same : i ≡ n). subst (λ (j : ℕ). IsMetAs met j (now j) kind) (sym same) (here kind (ap met (sym same) ∙ on)))
    (λ (differs : i ≢ n). subst (λ (part : Structures). IsMetAs met i part kind) (sym (others i differs)) (members i kind on)) (cases_eq i n)

pub met_put : (met : ℕ → Option Kind) (parts : StructureSets) (n a : ℕ) (s : Structure) → ((kind : Kind) → met n ≡ Some kind → IsMetAs met n (with_structure (parts n) a s) kind) → AreMet met parts → AreMet met (put parts n a s)
met_put met parts n a s owes members =
    met_but_one met parts (put parts n a s) n (put_beside parts n a s)
    (λ kind on. subst (λ (part : Structures). IsMetAs met n part kind) (sym (put_here parts n a s)) (owes kind on)) members

pub all_met_linked : (met : ℕ → Option Kind) (parts : StructureSets) (n : ℕ) (s : Structure) (l : LinkBits) → parts n n ≡ Some s → ((kind : Kind) → met n ≡ Some kind → LeadsTo met (link_of l)) → AreMet met parts → AreMet met (put parts n n (linked l s))
all_met_linked met parts n s l here link members =
    met_put met parts n n (linked l s) (λ kind on. met_linked met n (parts n) s l kind here (link kind on) (members n kind on)) members

-- ---- a copy in hand

-- the structure that stands at a copy's address
linked_here : (b : Bool) (parts : StructureSets) (n : ℕ) (s : Structure) (l : LinkBits) (a : ℕ) (t : Structure) → (a == n) ≡ b → parts n n ≡ Some s → parts a a ≡ Some t → put parts n n (linked l s) a a ≡ Some (if b then linked l t else t)
linked_here true parts n s l a t at there here =
    let same : a ≡ n = eqb-true a n at in
    let is : s ≡ t = same_Some s t (sym there ∙ ap (λ (i : ℕ). parts i i) (sym same) ∙ here) in
    ap (λ (i : ℕ). put parts n n (linked l s) i i) same ∙ put_same parts n n (linked l s) ∙ ap (λ (x : Structure). Some (linked l x)) is
linked_here false parts n s l a t at there here =
    ap (λ (part : Structures). part a) (put_beside parts n n (linked l s) a (λ same. true≢false (sym (eq-eqb a n same) ∙ at))) ∙ here

of_queue : (b : Bool) (l : LinkBits) (q : Qh) → (if b then linked l (QueueHead q) else QueueHead q) ≡ QueueHead (if b then record q { link = l } else q)
of_queue true l q = refl
of_queue false l q = refl

of_itd : (b : Bool) (l : LinkBits) (v : Itd) → (if b then linked l (Isochronous v) else Isochronous v) ≡ Isochronous (if b then record v { link = l } else v)
of_itd true l v = refl
of_itd false l v = refl

of_sitd : (b : Bool) (l : LinkBits) (v : Sitd) → (if b then linked l (SplitIsochronous v) else SplitIsochronous v) ≡ SplitIsochronous (if b then record v { link = l } else v)
of_sitd true l v = refl
of_sitd false l v = refl

queue_copy_linked : (met : ℕ → Option Kind) (parts : StructureSets) (n : ℕ) (s : Structure) (l : LinkBits) (c : Copy) → parts n n ≡ Some s → IsCopiedQueue met parts c → IsCopiedQueue met (put parts n n (linked l s)) (copy_linked n l c)
queue_copy_linked met parts n s l c there k = record {
  on = k.on;
  here = linked_here (c.at == n) parts n s l c.at (QueueHead c.queue) refl there k.here ∙ ap (λ (x : Structure). Some x) (of_queue (c.at == n) l c.queue);
  link = k.link;
  range = subst IsQhInRange (sym (copied_same n l c)) k.range;
}

queue_settled_linked : (b : Bool) (l : LinkBits) (q : Qh) (reply : Reply) (z : QueueSettlement) → IsQueueSettled q reply z → IsQueueSettled (if b then record q { link = l } else q) reply z
queue_settled_linked b l q reply z k = record { came_to = settled_linked b l q reply (came z) k.came_to; prog = k.prog; tag = k.tag }

-- its link may be an older one
itd_same : (b : Bool) (l : LinkBits) (held v : Itd) → record held { link = v.link } ≡ v → record held { link = (if b then record v { link = l } else v).link } ≡ (if b then record v { link = l } else v)
itd_same true l held v same = ap (λ (x : Itd). record x { link = l }) same
itd_same false l held v same = same

extent_linked : (b : Bool) (l : LinkBits) (v : Itd) (u : ℕ) (t : ItdSlot) → HasSameExtent (slot_of u v) t → HasSameExtent (slot_of u (if b then record v { link = l } else v)) t
extent_linked true l v u t k = k
extent_linked false l v u t k = k

itd_copy_linked : (met : ℕ → Option Kind) (parts : StructureSets) (got : List ℕ) (n : ℕ) (s : Structure) (l : LinkBits) (c : ItdCopy) → parts n n ≡ Some s → IsCopiedItd met parts got c → IsCopiedItd met (put parts n n (linked l s)) got (itd_linked n l c)
itd_copy_linked met parts got n s l c there k = record {
  on = k.on;
  here = linked_here (c.held.at == n) parts n s l c.held.at (Isochronous c.itd) refl there k.here ∙ ap (λ (x : Structure). Some x) (of_itd (c.held.at == n) l c.itd);
  link = k.link;
  same = itd_same (c.held.at == n) l c.held.itd c.itd k.same;
  held = k.held;
  slot = extent_linked (c.held.at == n) l c.itd c.held.number c.held.slot k.slot;
  count = k.count;
  small = k.small;
  begun = k.begun;
}

turned_linked : (b : Bool) (l : LinkBits) (c : SitdCopy) (reply : Reply) (o : Option SplitOutcome) → IsTurned c reply o → IsTurned (record c { sitd = if b then record c.sitd { link = l } else c.sitd }) reply o
turned_linked true l c reply None same = ap (λ (x : Sitd). record x { link = l }) same
turned_linked true l c reply (Some o) k = record { works = k.works; same = k.same; left = k.left; count = k.count; small = k.small }
turned_linked false l c reply o k = k

sitd_copy_linked : (met : ℕ → Option Kind) (parts : StructureSets) (reply : Reply) (n : ℕ) (s : Structure) (l : LinkBits) (c : SitdCopy) → parts n n ≡ Some s → IsCopiedSitd met parts reply c → IsCopiedSitd met (put parts n n (linked l s)) reply (sitd_linked n l c)
sitd_copy_linked met parts reply n s l c there k = record {
  on = k.on;
  here = linked_here (c.held.at == n) parts n s l c.held.at (SplitIsochronous c.sitd) refl there k.here ∙ ap (λ (x : Structure). Some x) (of_sitd (c.held.at == n) l c.sitd);
  link = k.link;
  range = k.range;
  turn = turned_linked (c.held.at == n) l c reply c.held.settled k.turn;
}

in_hand_linked : (met : ℕ → Option Kind) (parts : StructureSets) (got : List ℕ) (reply : Reply) (n : ℕ) (s : Structure) (l : LinkBits) (hand : FrameHand) → parts n n ≡ Some s → IsInFrame met parts got reply hand → IsInFrame met (put parts n n (linked l s)) got reply (frame_linked n l hand)
in_hand_linked met parts got reply n s l Nothing there k = tt
in_hand_linked met parts got reply n s l (OfQueue c made) there k = queue_copy_linked met parts n s l c there k
in_hand_linked met parts got reply n s l (OfSettled c z made) there k =
    (queue_copy_linked met parts n s l c there k.0, queue_settled_linked (c.at == n) l c.queue reply z k.1)
in_hand_linked met parts got reply n s l (OfItd c) there k = itd_copy_linked met parts got n s l c there k
in_hand_linked met parts got reply n s l (OfSitd c) there k = sitd_copy_linked met parts reply n s l c there k

-- the walk has the same in hand
held_linked : (n : ℕ) (l : LinkBits) (hand : FrameHand) → frame_held hand ≡ frame_held (frame_linked n l hand)
held_linked n l (OfQueue c made) =
    ap (λ (q : Qh). let h : HeldQueue = record { copy = record { at = c.at; queue_head = q; settled = None }; made = made } in Some (hands.Queue h)) (sym (copied_same n l c))
held_linked n l (OfSettled c s made) =
    ap (λ (q : Qh). let h : HeldQueue = record { copy = record { at = c.at; queue_head = record (settled_queue s.host q) { c_prog = s.c_prog; frame_tag = s.frame_tag }; settled = Some s.outcome }; made = made } in Some (hands.Queue h)) (sym (copied_same n l c))
held_linked n l _ = refl

-- ---- the whole

pub link_store_leaves_frame : (met : ℕ → Option Kind) (parts : StructureSets) (hand : FrameHand) (p : FramePlace) (n : ℕ) (s : Structure) (l : LinkBits) → IsFrame met parts hand p → parts n n ≡ Some s → HasLink s → IsWordInRange link_rows l → ((kind : Kind) → met n ≡ Some kind → LeadsTo met (link_of l)) → IsFrame met (put parts n n (linked l s)) (frame_linked n l hand) (record p { memory = with_word p.memory n (word_of link_rows l) })
link_store_leaves_frame met parts hand p n s l k here has range link = record {
  tells = link_told p.memory parts n n s l k.tells here has range;
  members = all_met_linked met parts n s l here link k.members;
  walk = record {
    cursor = k.walk.cursor;
    held = k.walk.held ∙ held_linked n l hand;
    in_hand = in_hand_linked met parts p.walk.got p.walk.reply n s l hand here k.walk.in_hand;
  };
}

-- ---- by the word

in_fields : (link : Link) → IsAligned link → IsWordInRange link_rows (link_fields link)
in_fields links.End aligned = (refl, (omega arith, tt))
in_fields _ aligned = (aligned, (omega arith, tt))

typed_aligned : (b c d : Bool) (a : ℕ) → a % 32 ≡ 0 → IsAligned (if b then links.Itd a else if c then links.Qh a else if d then links.Sitd a else links.Fstn a)
typed_aligned true c d a aligned = aligned
typed_aligned false true d a aligned = aligned
typed_aligned false false true a aligned = aligned
typed_aligned false false false a aligned = aligned

of_aligned : (ends : Bool) (typ a : ℕ) → a % 32 ≡ 0 → IsAligned (if ends then links.End else typed typ a)
of_aligned true typ a aligned = tt
of_aligned false typ a aligned = typed_aligned (typ == 0) (typ == 1) (typ == 2) a aligned

aligned_read : (v : ℕ) → IsAligned (link_read v)
unfolding link_read
aligned_read v = of_aligned (is_set 0 v) (bits 2 1 v) (high_bits 5 v) (omega arith)

pub fields_range : (v : ℕ) → IsWordInRange link_rows (link_fields (link_read v))
fields_range v = in_fields (link_read v) (aligned_read v)

pub fields_word : (v : ℕ) → IsLinkWord v → word_of link_rows (link_fields (link_read v)) ≡ v
fields_word v is = word_of-fields (link_read v) ∙ link_word-read v is

pub fields_lead : (met : ℕ → Option Kind) (v : ℕ) → LeadsTo met (link_read v) → LeadsTo met (link_of (link_fields (link_read v)))
fields_lead met v leads = subst (LeadsTo met) (sym (link_of-fields (link_read v))) leads

pub link_word_leaves_frame : (met : ℕ → Option Kind) (parts : StructureSets) (hand : FrameHand) (p : FramePlace) (n : ℕ) (s : Structure) (v : ℕ) → IsFrame met parts hand p → parts n n ≡ Some s → HasLink s → IsLinkWord v → ((kind : Kind) → met n ≡ Some kind → LeadsTo met (link_read v)) → IsFrame met (put parts n n (linked (link_fields (link_read v)) s)) (frame_linked n (link_fields (link_read v)) hand) (record p { memory = with_word p.memory n v })
link_word_leaves_frame met parts hand p n s v k here has is link =
    let l : LinkBits = link_fields (link_read v) in
    subst (λ (w : ℕ). IsFrame met (put parts n n (linked l s)) (frame_linked n l hand) (record p { memory = with_word p.memory n w })) (fields_word v is)
    (link_store_leaves_frame met parts hand p n s l k here has (fields_range v) (λ kind on. fields_lead met v (link kind on)))

pub stored_link_leads : (link : Link) (s : Structure) → HasLink s → link_in (linked (link_fields link) s) ≡ link
stored_link_leads link (Element t) has = absurd has
stored_link_leads link (Buffer pages start bytes) has = absurd has
stored_link_leads link (Table words) has = absurd has
stored_link_leads link _ has = link_of-fields link
