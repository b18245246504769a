-- Lemmas that several files need.
use Rattle.std.proofs.Common.{◌≡◌, ℕ, List, ◌<◌, ◌∷◌, inl, subst, sym, inr, [], ap, ◌∙◌, refl, Bool, true, false, Option, Some, ◌≢◌, ◌++◌, ◌%◌, None, ◌+◌, ◌*◌, slice_index, length, arith, get_or, ⊎_elim}
use Rattle.std.specs.Prelude.{◌⊎◌, ◌^◌, ◌==◌, if◌then◌else◌}
use Rattle.usb_base.specs.declared.packets.Ask.{Ask}
use Rattle.usb_base.specs.declared.packets.Reply.{Reply}
use Rattle.word_mem.specs.Memory.{Mem, word_at}
use Rattle.word_mem.proofs.Words.{get_or-words_in}
use Rattle.op_registers.specs.RegisterFile.{RegisterFile, levels_of}
use Rattle.claims_base.specs.Controller.{Base}
use Rattle.link_words.specs.Links.{IsAligned}
use Rattle.itd_sitd.specs.declared.sitd.Sitd.{Sitd}
use Rattle.qh_qtd.specs.declared.queue_head.Qh.{Qh}
use Rattle.qh_qtd.specs.declared.qtd.Qtd.{Qtd}
use Rattle.async_walk.specs.Rows.{WalkPlace, cursor_link}
use Rattle.async_walk.specs.declared.state.Cursor.{Cursor}
use Rattle.async_walk.specs.Walk.{IsCursor}
use Rattle.async_walk.specs.declared.state.WalkStep.{WalkStep}
use Rattle.hc_iso.specs.declared.held.SplitHeard.{SplitHeard}
use Rattle.hc_iso.specs.Sitd.{after_split_heard}
use Rattle.hc_core.specs.declared.controller.MicroframePart.TheVariants.{Over, Periodic, Asynchronous}
use Rattle.hc_core.specs.Controller.{ring_row, enter_row, part_after, Content, begun_at, frame_place}
use Rattle.hc_core.specs.declared.controller.MicroframePart.{MicroframePart}
use Rattle.law_structures.specs.lent_structures.Structures.{StructureSets, Structures, Structure, Table, QueueHead, Buffer, Tells, HoldsTable, with_structure, Element}
use Rattle.law_structures.specs.lent_structures.Alters.{Alters, HadElement}
use Rattle.law_structures.proofs.lemmas.lent_structures.Members.{still_active}
use Rattle.law_structures.specs.lent_structures.Sound.{AreOwn, buffer_name}
use Rattle.law_structures.proofs.Common.{element_is}
use Rattle.law_ring.specs.Order.{AreAfter, IsAmong}
use Rattle.law_ring.specs.Sparing.{SparesHead, SparesElement, SameHand}
use Rattle.law_ring.specs.Hand.{Hand, Copy, Copied, Empty}
use Rattle.law_ring.specs.Ring.{IsRing, IsCopied, IsInHand}
use Rattle.law_ring.specs.Effects.{buffer_of, bytes_in, Effect, reads, passes, ends, takes, makes, writes_back}
use Rattle.law_ring.specs.OutPipeLaws.{SendsNone}
use Rattle.law_ring.specs.Told.{Endpoint}
use Rattle.law_ring.specs.walk_writes.Writes.{WritesLent}
use Rattle.law_ring.proofs.lemmas.walk_writes.Walking.{unchanged}
use Rattle.law_ring.proofs.lemmas.walk_writes.Lent.{refused_writes}
use Rattle.law_ring.specs.Stores.{IsUnnamed}
use Rattle.law_ring.proofs.Common.{buffer_before}
use Rattle.law_ring.proofs.Parting.{found_with}
use Rattle.law_frames.specs.Met.{Kind}
use Rattle.law_frames.specs.FrameHand.{FrameHand}
use Rattle.law_frames.specs.Frame.{IsFrame}
use Rattle.law_controller.specs.frame_control.Both.{RunsBoth}
use Rattle.law_controller.specs.controlled_streams.Control.{FrameList}
use Rattle.async_walk.specs.declared.state.Cursor.TheVariants as cursors
use Rattle.hc_iso.specs.declared.held.SplitHeard.TheVariants as heards
use Rattle.hc_core.specs.declared.controller.ControllerRow.TheVariants as rows

pub over_not_periodic : Over ≡ Periodic → ⊥
over_not_periodic e = cc

pub lower_one : (f : ℕ → ℕ) (h a : ℕ) (xs : List ℕ) → AreAfter f h xs → IsAmong a xs → f h < f a
lower_one f h a [] after is = absurd is
lower_one f h a (x ∷ xs) after (inl is) = subst (λ (i : ℕ). f h < f i) (sym is) after.0
lower_one f h a (x ∷ xs) after (inr is) = lower_one f h a xs after.1 is

pub asynchronous_not_periodic : Asynchronous ≡ Periodic → ⊥
asynchronous_not_periodic same = cc

pub heads_stay : (parts now : StructureSets) (k : ℕ) → now k ≡ parts k → SparesHead parts now k
heads_stay parts now k same q here = record {
  queue = q;
  here = ap (λ (part : Structures). part k) same ∙ here;
  overlay = record { token = refl; current = refl; offset = refl; endpoint = refl };
}

pub copied_in_hand : (base : Base) (member : ℕ → Bool) (parts : StructureSets) (hand : Hand) (p : WalkPlace) (c : Copy)
    → IsRing base member parts hand p → hand ≡ Copied c → IsCopied member parts c
copied_in_hand base member parts hand p c k is = subst (IsInHand member parts p.walk.reply) is k.in_hand

pub elements_stay : (parts now : StructureSets) (k e : ℕ) → now k ≡ parts k → SparesElement parts now k e
elements_stay parts now k e same = record {
  element = λ t here. ap (λ (part : Structures). part e) same ∙ here;
  bytes = λ t here. ap (λ (part : Structures). buffer_of part t) same;
}

pub periodic_not_asynchronous : Periodic ≡ Asynchronous → ⊥
periodic_not_asynchronous e = cc

pub same_hand : (hand : Hand) → SameHand hand hand
same_hand hand = record { bytes = λ n q e t bs. refl; toggle = λ n q. refl }

pub ring_off : (b : Bool) → ring_row b ≡ rows.Frame → ⊥
ring_off true is = cc is
ring_off false is = cc is

pub table_head : (o : Option Structure) (ws : List ℕ) (q : Qh) → o ≡ Some (Table ws) → o ≡ Some (QueueHead q) → ⊥
table_head o ws q table head = cc

pub none_still : (part now : Structures) → Alters part now → SendsNone part → SendsNone now
none_still part now alters none a u here on =
    let had : HadElement part a u = alters.element_before a u here in
    let kept : u ≡ had.qtd = still_active had.qtd u had.after on in
    subst (λ (t : Qtd). t.token.pid ≢ 0) (sym kept) (none a had.qtd had.here (ap (λ (t : Qtd). t.token.active) (sym kept) ∙ on))

pub no_bytes : (o : Option Structure) → ((pages : List ℕ) (k : ℕ) (bs : List ℕ) → o ≡ Some (Buffer pages k bs) → ⊥) → bytes_in o ≡ []
no_bytes (Some (Buffer pages k bs)) none = absurd (none pages k bs refl)
no_bytes _ none = refl

pub here_among : (e : ℕ) (before after : List ℕ) → IsAmong e (before ++ e ∷ after)
here_among e [] after = inl refl
here_among e (b ∷ bs) after = inr (here_among e bs after)

pub enter_off : (b : Bool) → enter_row b ≡ rows.Frame → ⊥
enter_off true is = cc is
enter_off false is = cc is

pub split_heard_same : (x : SplitHeard) (v : Sitd) → (after_split_heard x v).link ≡ v.link
split_heard_same (heards.Data last n) v = refl
split_heard_same _ v = refl

pub cursor_aligned : (r : RegisterFile) (c : Cursor) → r.async_list_address % 32 ≡ 0 → IsCursor c → IsAligned (cursor_link r c)
cursor_aligned r cursors.Start start is = start
cursor_aligned r (cursors.At l) start is = is

pub over_apart : (p : MicroframePart) → p ≡ Over → p ≡ Asynchronous → ⊥
over_apart p one other = let e : Over ≡ Asynchronous = sym one ∙ other in cc

pub table_apart : (o : Option Structure) (q : Qh) (ws : List ℕ) → o ≡ Some (QueueHead q) → o ≡ Some (Table ws) → ⊥
table_apart o q ws head table = cc

pub later_empty : {W : Type 0} (transacts : W → Ask → List ℕ → Reply → W → Type 0) (parts : StructureSets) (hand : Hand) (wire after : W)
    (now : StructureSets) (later : Hand) (kind : WalkStep) (part : MicroframePart) → Effect transacts parts hand wire after now later kind
    → part ≡ part_after Asynchronous kind → part ≢ Asynchronous → later ≡ Empty
later_empty transacts parts hand wire after now later _ part (reads r same quiet) is over = absurd (over is)
later_empty transacts parts hand wire after now later _ part (passes r same quiet) is over = absurd (over is)
later_empty transacts parts hand wire after now later _ part (ends r same quiet) is over = r.nothing
later_empty transacts parts hand wire after now later _ part (takes r quiet) is over = absurd (over is)
later_empty transacts parts hand wire after now later _ part (makes r same) is over = absurd (over is)
later_empty transacts parts hand wire after now later _ part (writes_back r quiet) is over = absurd (over is)

pub apart_still : (part now : Structures) (x y : Endpoint) → Alters part now → ((x.addr ≡ y.addr → x.ep ≡ y.ep → ⊥)) ⊎ SendsNone part
    → ((x.addr ≡ y.addr → x.ep ≡ y.ep → ⊥)) ⊎ SendsNone now
apart_still part now x y alters (inl apart) = inl apart
apart_still part now x y alters (inr none) = inr (none_still part now alters none)

pub goes_to : (m : Mem) (new expected : Content) → new ≡ expected → WritesLent m expected.memory → WritesLent m new.memory
goes_to m new expected is writes = subst (λ (x : Content). WritesLent m x.memory) (sym is) writes

pub begun_writes : (c : Content) (b allowed : Bool) → WritesLent c.memory (begun_at b allowed c).memory
begun_writes c true allowed = unchanged c.memory
begun_writes c false allowed = refused_writes c.memory

pub frame_at : (base : Base) (member : ℕ → Bool) (met : ℕ → Option Kind) (parts : StructureSets) (hand : Hand) (frame : FrameHand)
    (c : Content) → RunsBoth base member met parts hand frame c → c.control.part ≡ Periodic → IsFrame met parts frame (frame_place c)
frame_at base member met parts hand frame c k part = record { tells = k.ring.tells; members = k.members; walk = k.walk part }

pub none_table : (o : Option Structure) (words : List ℕ) → o ≡ None → o ≡ Some (Table words) → ⊥
none_table o words none here = cc

pub word_there : (m : Mem) (base : Base) (parts : StructureSets) (i : ℕ) → Tells m parts → (list : FrameList parts base) → i < 1024
    → word_at m (base.periodic_list_base + 4 * i) ≡ slice_index list.words i
word_there m base parts i told list below =
    let table : HoldsTable m base.periodic_list_base list.words =
    told.each base.periodic_list_base base.periodic_list_base (Table list.words) list.here in
    sym (get_or-words_in m.words base.periodic_list_base (length list.words) i (let size = list.size in omega (arith, below, size)))
    ∙ ap (λ ws. get_or ws i 0) table.words

pub over_not_asynchronous : Over ≡ Asynchronous → ⊥
over_not_asynchronous e = cc

pub new_own : (part : Structures) (a : ℕ) (new : Qtd) → IsUnnamed part a new → AreOwn part → AreOwn (with_structure part a (Element new))
new_own part a new unnamed own b c t u pages k bs one other same there =
    let buffer = buffer_before part a (buffer_name t) new pages k bs there in
    ⊎_elim (λ (first : (b ≡ a) × (Element new ≡ Element t)).
    let is_new : new ≡ t = element_is new t first.1 in
    ⊎_elim (λ (second : (c ≡ a) × (Element new ≡ Element u)). first.0 ∙ sym second.0)
    (λ (second : (c ≢ a) × (part c ≡ Some (Element u))).
    absurd (unnamed c u second.0 second.1 (sym same ∙ ap buffer_name (sym is_new))
    (record { pages = pages; start = k; bytes = bs; here = ap part (ap buffer_name is_new) ∙ buffer })))
    (found_with part a c (Element new) (Element u) other))
    (λ (first : (b ≢ a) × (part b ≡ Some (Element t))).
    ⊎_elim (λ (second : (c ≡ a) × (Element new ≡ Element u)).
    let is_new : new ≡ u = element_is new u second.1 in
    absurd (unnamed b t first.0 first.1 (same ∙ ap buffer_name (sym is_new))
    (record { pages = pages; start = k; bytes = bs; here = ap part (ap buffer_name is_new ∙ sym same) ∙ buffer })))
    (λ (second : (c ≢ a) × (part c ≡ Some (Element u))). own b c t u pages k bs first.1 second.1 same buffer)
    (found_with part a c (Element new) (Element u) other))
    (found_with part a b (Element new) (Element t) one)

low_by : (half quarter : Bool) (n : ℕ) → n % 2 ^ (if half then 9 else if quarter then 8 else 10) < 1024
low_by true quarter n = omega arith
low_by false true n = omega arith
low_by false false n = omega arith

-- an element of a frame list of any length is one of its page's
pub element_low : (size n : ℕ) → n % 2 ^ levels_of size < 1024
element_low size n = low_by (size == 1) (size == 2) n
