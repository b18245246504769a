-- Lemmas that several files need.
use Rattle.std.proofs.Common.{ℕ, ◌≡◌, Some, ◌*◌, ⊎_elim, inl, ◌≢◌, inr, Option, None, Bool, subst, ◌≤◌, ◌<◌, ◌+◌, true, arith, ap, cond, ◌∙◌, ◌/◌, false, zero, suc, sym, nat_eq, if◌then◌else◌, List, ◌∷◌, [], refl, ◌++◌, length, replicate, ◌%◌, get_or, ◌||◌, ◌-◌, slice_set, set}
use Rattle.std.specs.Prelude.{◌⊎◌, nat_le, slice_index_or}
use Rattle.std.proofs.lemmas.Bool.Decides.{nat_tests}
use Rattle.std.specs.Result.{result_ok}
use Rattle.std.proofs.lemmas.Option.{same_Some}
use Rattle.std.proofs.lemmas.Bool.{leb-true, true≢false, eq-eqb, cases_eq}
use Rattle.std.proofs.lemmas.List.{length-replicate, get_or-set_same, get_or-set_other}
use Rattle.usb_base.specs.declared.packets.Speed.{Speed}
use Rattle.word_mem.specs.Memory.{Mem, with_word, state_at, reaches, is_lent, IsShaped}
use Rattle.word_mem.specs.Runs.{Run}
use Rattle.word_mem.specs.declared.blocks.BlockState.TheVariants.{Kept}
use Rattle.mem_runs.specs.declared.slots.Slot.{Slot}
use Rattle.mem_runs.specs.declared.slots.Slot.TheVariants.{Empty, Keeps, Lends}
use Rattle.mem_runs.specs.Book.{Book, slot_of, store, has_address, can_store, Holding, release_run}
use Rattle.mem_runs.proofs.Standing.{keeps_within}
use Rattle.op_registers.specs.RegisterFile.{RegisterFile}
use Rattle.op_registers.specs.Table.{after_write}
use Rattle.op_registers.specs.Events.{after_advance}
use Rattle.law_common.proofs.Numbers.{moved_by}
use Rattle.claims_base.specs.Controller.{Base, base_of}
use Rattle.link_words.specs.declared.refusal.Bad.{Bad}
use Rattle.link_words.specs.Layout.{unless_bad}
use Rattle.qh_qtd.specs.declared.queue_head.Qh.{Qh}
use Rattle.qh_qtd.specs.declared.qtd.Qtd.{Qtd}
use Rattle.drv_table.specs.Words.{dummy_qtd, head_block, queue_head_link, pieces, buffer_needs, speed_field, to_queue_head}
use Rattle.drv_table.specs.declared.content.Stage.{Stage}
use Rattle.drv_table.specs.Offers.{sends, runs_of}
use Rattle.drv_table.specs.declared.content.Endpoint.{Endpoint}
use Rattle.drv_table.specs.Releases.{free_runs}
use Rattle.drv_table.specs.Leaving.{doorbell_command}
use Rattle.drv_table.specs.Harvests.{moved_of}
use Rattle.drv_table.specs.declared.content.QtdNote.{QtdNote}
use Rattle.drv_table.specs.DriverContent.{no_note}
use Rattle.async_walk.specs.Rows.{WalkPlace}
use Rattle.law_structures.specs.lent_structures.Structures.{Structure, Element, QueueHead, with_structure, StructureSets, Structures, Buffer, Table, put}
use Rattle.law_structures.specs.lent_structures.Sound.{IsSoundElement, buffer_name, element_pages, LeadsAmong}
use Rattle.law_structures.proofs.lemmas.lent_structures.Altering.{found_queue, found_element, same_buffer}
use Rattle.law_structures.proofs.lemmas.lent_structures.Names.{put_found}
use Rattle.law_structures.specs.lent_structures.Changes.{Leaves}
use Rattle.law_ring.proofs.Parting.{found_with}
use Rattle.law_ring.specs.Hand.{Hand, Copy, Settlement, Settled}
use Rattle.law_ring.specs.Ring.{IsRing, IsCopied, IsSettled, IsInHand}
use Rattle.law_ring.specs.Stores.{IsUnnamed, IsBuffer}
use Rattle.law_ring.specs.Told.{Told, hand_bytes}
use Rattle.law_ring.specs.Effects.{buffer_of}
use Rattle.claims_driver.specs.LentRuns.{IsLent as IsLentRun}
use Rattle.claims_driver.specs.Owners.{EndpointRuns, NoteRuns, IsPieceOf, HasRun, IsOneOf, Views}
use Rattle.law_driver.specs.ring_members.Words.{AreLinked, step_to}
use Rattle.law_driver.specs.ring_members.Links.{newest_from}
use Rattle.law_driver.proofs.Common.{lends_keeps}
use Rattle.law_driver_ring.specs.Inventory.{IsLent, Sort, OfBuffer, IsDriverOwned, the_list, the_head, a_queue, a_dummy, a_piece, a_buffer}
use Rattle.law_driver_ring.specs.Linked.{opened_part, no_part, with_member}
use Rattle.law_driver_ring.specs.Extents.{KeepExtents}
use Rattle.law_driver_ring.specs.Driven.{IsOperating}
use Rattle.law_driver_ring.specs.Published.{partly, place_in}
use Rattle.law_driver_ring.specs.Released.{blocks_of}
use Rattle.usb_base.specs.declared.packets.Speed.TheVariants as speeds
use Rattle.link_words.specs.declared.kinds.Link.TheVariants as links

pub lent_slot : (s : Slot) → IsLentRun s → IsLent s
lent_slot Empty lent = lent
lent_slot _ lent = lent

pub found_one : (x : EndpointRuns) (q : Qh) (a : ℕ) (s : Structure) → opened_part x q a ≡ Some s
    → (Element dummy_qtd ≡ s) ⊎ (QueueHead q ≡ s)
found_one x q a s found =
    let one = with_structure no_part (32 * x.queue) (QueueHead q) in
    ⊎_elim (λ (new : (a ≡ 32 * x.dummy) × (Element dummy_qtd ≡ s)). inl new.1)
    (λ (old : (a ≢ 32 * x.dummy) × (one a ≡ Some s)).
    ⊎_elim (λ (head : (a ≡ 32 * x.queue) × (QueueHead q ≡ s)). inr head.1)
    (λ (none : (a ≢ 32 * x.queue) × (no_part a ≡ Some s)). absurd (nothing s none.1))
    (found_with no_part (32 * x.queue) a (QueueHead q) s old.1))
    (found_with one (32 * x.dummy) a (Element dummy_qtd) s found)
  where
    nothing : (s : Structure) → ◌≡◌ {A = Option Structure} None (Some s) → ⊥
    nothing s none = cc

pub one_element : (x : EndpointRuns) (q : Qh) (a : ℕ) (t : Qtd) → opened_part x q a ≡ Some (Element t) → dummy_qtd ≡ t
one_element x q a t found =
    ⊎_elim (λ (same : Element dummy_qtd ≡ Element t). equal t same) (λ (head : QueueHead q ≡ Element t). absurd (never t head))
    (found_one x q a (Element t) found)
  where
    equal : (t : Qtd) → Element dummy_qtd ≡ Element t → dummy_qtd ≡ t
    equal t same = cc

    never : (t : Qtd) → QueueHead q ≡ Element t → ⊥
    never t same = cc

pub settled_there : (base : Base) (member : ℕ → Bool) (parts : StructureSets) (hand : Hand) (p : WalkPlace) (c : Copy) (s : Settlement)
    → IsRing base member parts hand p → hand ≡ Settled c s → IsCopied member parts c
settled_there base member parts hand p c s k is = let both : IsCopied member parts c × IsSettled c.queue p.walk.reply s =
    subst (IsInHand member parts p.walk.reply) is k.in_hand in both.0

pub stored_one : (k : Book) (m : Mem) (b at v : ℕ) (r : Run) → slot_of k.slots b ≡ Keeps r → 32 * r.first ≤ at
    → at < 32 * (r.first + r.blocks) → store k m b at v ≡ with_word m at v
stored_one k m b at v r there from below =
    let inside : has_address r at ≡ true = grind (arith, nat_tests) in
    ap (λ s. cond (can_store s at) (with_word m at v) m) there ∙ ap (λ t. cond t (with_word m at v) m) inside

pub not_reached : (m : Mem) (at : ℕ) → state_at m (at / 32) ≡ Some Kept → reaches m at ≡ false
not_reached m at kept = ap is_lent kept

pub piece_on : (note other : ℕ → NoteRuns) (b n c : ℕ) → ((k : ℕ) → other k ≡ note k) → IsPieceOf note b n c → IsPieceOf other b n c
piece_on note other b zero c same is = is
piece_on note other b (suc n) c same (inl is) = inl is
piece_on note other b (suc n) c same (inr is) =
    inr (subst (λ (k : ℕ). IsPieceOf other k n c) (ap (λ (r : NoteRuns). r.next) (sym (same b)))
    (piece_on note other (note b).next n c same is))

pub sends_few : (s : Stage) → sends s ≤ s.long
sends_few s = by (nat_eq s.pid 1)
  where
    by : (b : Bool) → (if b then 0 else s.long) ≤ s.long
    by true = omega arith
    by false = omega arith

pub unless_is : (o : Option Bad) (q r : Qh) → result_ok (unless_bad o q) ≡ Some r → q ≡ r
unless_is None q r e = same_Some q r e
unless_is (Some bad) q r e = absurd (cc)

pub head_link : (word : ℕ → ℕ) (b : ℕ) (xs : List Endpoint) → AreLinked word b xs → word head_block ≡ queue_head_link (newest_from b xs)
head_link word b [] k = k
head_link word b (x ∷ xs) k = head_link word (step_to b x) xs k.1

pub extents_same : (parts now : StructureSets) → now ≡ parts → KeepExtents parts now
extents_same parts now same =
    subst (KeepExtents parts) (sym same) (record {
      buffers =
          λ n a pages k bs here. record { bytes = bs; here = here; size = refl };
      tables =
          λ n a ws here. record { words = ws; here = here; size = refl };
    })

pub runs_joined : (h : Holding) (bs cs : List ℕ) → free_runs h (bs ++ cs) ≡ free_runs (free_runs h bs) cs
runs_joined h [] cs = refl
runs_joined h (b ∷ bs) cs = runs_joined (release_run h b) bs cs

pub room_by : (n : ℕ) (b : Bool) → nat_le (suc n) 4096 ≡ b → suc n ≤ 4096 * length
    (if b then pieces (suc n) 32 ∷ [] else replicate (pieces (suc n) 4096) 128)
room_by n true is = let few = leb-true (suc n) 4096 is in omega (arith, few)
room_by n false is = let long = length-replicate {A = ℕ} (pieces (suc n) 4096) 128 in omega (arith, long)

pub has_room : (n : ℕ) → n ≤ 4096 * length (buffer_needs n)
has_room zero = omega arith
has_room (suc n) = room_by n (nat_le (suc n) 4096) refl

pub cleared_base : (r : RegisterFile) → base_of (after_write r 0x04 0x20) ≡ base_of r
cleared_base r = refl

pub rung_base : (r : RegisterFile) → base_of (after_write r 0x00 doorbell_command) ≡ record {
  run = true;
  async_enable = true;
  async_list_address = r.async_list_address;
  periodic_enable = true;
  periodic_list_base = r.periodic_list_base;
  list_size = if r.run then r.list_size else 0;
}
rung_base r = refl

pub rung_same : (base : Base) (r : RegisterFile) → IsOperating base → base_of r ≡ base
    → base_of (after_write r 0x00 doorbell_command) ≡ base_of r
rung_same base r on same =
    let run : r.run ≡ true = ap (λ (b : Base). b.run) same ∙ on.run in
    let async : r.async_enable ≡ true = ap (λ (b : Base). b.async_enable) same ∙ on.async_enable in
    let periodic : r.periodic_enable ≡ true = ap (λ (b : Base). b.periodic_enable) same ∙ on.periodic_enable in
    rung_base r
    ∙ ap (λ (x : Bool). record (base_of r) { run = true; async_enable = true; periodic_enable = true; list_size = if x then r.list_size else 0 }) run
    ∙ sym (ap (λ (x : Bool). record (base_of r) { run = x }) run
    ∙ ap (λ (x : Bool). record (base_of r) { run = true; async_enable = x }) async
    ∙ ap (λ (x : Bool). record (base_of r) { run = true; async_enable = true; periodic_enable = x }) periodic)

pub sound_at : (part : Structures) (t : Qtd) (k : ℕ) → IsSoundElement part t → IsSoundElement part (partly t k)
sound_at part t zero s = record { next = tt; alternate = tt; work = λ on. absurd (true≢false (sym on)) }
sound_at part t (suc zero) s = record { next = s.next; alternate = tt; work = λ on. absurd (true≢false (sym on)) }
sound_at part t (suc (suc (suc (suc (suc (suc (suc (suc k)))))))) s = s
sound_at part t _ s = record { next = s.next; alternate = s.alternate; work = λ on. absurd (true≢false (sym on)) }

pub name_is : (t : Qtd) → t.offset < 4096 → buffer_name t ≡ t.page0 * 4096 + t.offset
name_is t low =
    let first : t.offset / 4096 ≡ 0 = omega (arith, low) in
    let rest : t.offset % 4096 ≡ t.offset = omega (arith, low) in
    ap (λ (j : ℕ). get_or (element_pages t) j 0 * 4096 + t.offset % 4096) first ∙ ap (λ (j : ℕ). t.page0 * 4096 + j) rest

pub same_name : (part : Structures) (a : ℕ) (t u : Qtd) → buffer_name u ≡ buffer_name t → IsUnnamed part a t → IsUnnamed part a u
same_name part a t u same free b v differs there name has = free b v differs there (name ∙ same) (subst (IsBuffer part) same has)

pub same_place : (part : Structures) (a : ℕ) (t u : Qtd) → t.offset < 4096 → u.offset ≡ t.offset → u.page0 ≡ t.page0 → IsUnnamed part a t
    → IsUnnamed part a u
same_place part a t u low offset page free =
    same_name part a t u (name_is u (omega (arith, low, offset))
    ∙ (let e : u.page0 * 4096 + u.offset ≡ t.page0 * 4096 + t.offset = omega (arith, offset, page) in e) ∙ sym (name_is t low)) free

pub unnamed_at : (part : Structures) (a : ℕ) (t : Qtd) (k : ℕ) → t.offset < 4096 → IsUnnamed part a t → IsUnnamed part a dummy_qtd
    → IsUnnamed part a (partly t k)
unnamed_at part a t (suc (suc (suc zero))) low own blank = same_place part a t (partly t 3) low refl refl own
unnamed_at part a t (suc (suc (suc (suc zero)))) low own blank = same_place part a t (partly t 4) low refl refl own
unnamed_at part a t (suc (suc (suc (suc (suc zero))))) low own blank = same_place part a t (partly t 5) low refl refl own
unnamed_at part a t (suc (suc (suc (suc (suc (suc zero)))))) low own blank = same_place part a t (partly t 6) low refl refl own
unnamed_at part a t (suc (suc (suc (suc (suc (suc (suc zero))))))) low own blank = same_place part a t (partly t 7) low refl refl own
unnamed_at part a t (suc (suc (suc (suc (suc (suc (suc (suc k)))))))) low own blank = own
unnamed_at part a t _ low own blank = blank

pub one_told : (hand : Hand) (parts : StructureSets) (n e : ℕ) (xs ys : List ℕ) → Told hand parts n e xs → Told hand parts n e ys → xs ≡ ys
one_told hand parts n e xs ys a b =
    a.are ∙ ap (λ (q : Qh). hand_bytes hand n q e a.qtd (buffer_of (parts n) a.qtd)) (found_queue (parts n n) a.queue b.queue a.head b.head)
    ∙ ap (λ (t : Qtd). hand_bytes hand n b.queue e t (buffer_of (parts n) t)) (found_element (parts n e) a.qtd b.qtd a.here b.here)
    ∙ sym b.are

pub speed_small : (s : Speed) → speed_field s ≤ 2
speed_small speeds.Full = omega arith
speed_small _ = omega arith

pub lent_has : (s : Slot) → IsLent s → HasRun s
lent_has Empty lent = lent
lent_has (Keeps r) lent = absurd lent
lent_has (Lends r) lent = tt

pub extents_both : (parts mid now : StructureSets) → KeepExtents parts mid → KeepExtents mid now → KeepExtents parts now
extents_both parts mid now one two = record {
  buffers = λ n a pages k bs here.
      let second = two.buffers n a pages k bs here in
      let first = one.buffers n a pages k second.bytes second.here in
      record { bytes = first.bytes; here = first.here; size = first.size ∙ second.size };
  tables = λ n a ws here.
      let second = two.tables n a ws here in
      let first = one.tables n a second.words second.here in
      record { words = first.words; here = first.here; size = first.size ∙ second.size };
}

pub extents_put : (parts : StructureSets) (m b : ℕ) (s : Structure) → ((pages : List ℕ) (k : ℕ) (bs : List ℕ) → Buffer pages k bs ≡ s → ⊥)
    → ((ws : List ℕ) → Table ws ≡ s → ⊥) → KeepExtents parts (put parts m b s)
extents_put parts m b s no_buffer no_table = record {
  buffers = λ n a pages k bs here.
      ⊎_elim (λ (is : (n ≡ m) × (a ≡ b) × (Buffer pages k bs ≡ s)). absurd (no_buffer pages k bs is.2))
      (λ (there : parts n a ≡ Some (Buffer pages k bs)). record { bytes = bs; here = there; size = refl })
      (put_found parts m b s n a (Buffer pages k bs) here);
  tables = λ n a ws here.
      ⊎_elim (λ (is : (n ≡ m) × (a ≡ b) × (Table ws ≡ s)). absurd (no_table ws is.2))
      (λ (there : parts n a ≡ Some (Table ws)). record { words = ws; here = there; size = refl })
      (put_found parts m b s n a (Table ws) here);
}

pub extents_buffer : (parts : StructureSets) (m b : ℕ) (pages : List ℕ) (k : ℕ) (bs cs : List ℕ) → parts m b ≡ Some (Buffer pages k bs)
    → length cs ≡ length bs → KeepExtents parts (put parts m b (Buffer pages k cs))
extents_buffer parts m b pages k bs cs here size = record {
  buffers = λ n a ps j ds found.
      ⊎_elim (λ (is : (n ≡ m) × (a ≡ b) × (Buffer ps j ds ≡ Buffer pages k cs)).
      let same = same_buffer ps j ds pages k cs is.2 in
      record {
        bytes = bs;
        here = ap (λ (i : ℕ). parts i a) is.0 ∙ ap (parts m) is.1 ∙ here ∙ ap (λ (x : List ℕ). Some (Buffer x k bs)) (sym same.pages_is)
            ∙ ap (λ (x : ℕ). Some (Buffer ps x bs)) (sym same.start_is);
        size = sym size ∙ ap length (sym same.bytes_is);
      })
      (λ (there : parts n a ≡ Some (Buffer ps j ds)). record { bytes = ds; here = there; size = refl })
      (put_found parts m b (Buffer pages k cs) n a (Buffer ps j ds) found);
  tables = λ n a ws found.
      ⊎_elim (λ (is : (n ≡ m) × (a ≡ b) × (Table ws ≡ Buffer pages k cs)). absurd (no_table ws is.2))
      (λ (there : parts n a ≡ Some (Table ws)). record { words = ws; here = there; size = refl })
      (put_found parts m b (Buffer pages k cs) n a (Table ws) found);
}
  where
    no_table : (ws : List ℕ) → Table ws ≡ Buffer pages k cs → ⊥
    no_table ws e = cc

pub one_left : (c : ℕ) (bs cs : List ℕ) → IsOneOf c bs → IsOneOf c (bs ++ cs)
one_left c [] cs among = absurd among
one_left c (b ∷ bs) cs (inl same) = inl same
one_left c (b ∷ bs) cs (inr among) = inr (one_left c bs cs among)

pub one_right : (c : ℕ) (bs cs : List ℕ) → IsOneOf c cs → IsOneOf c (bs ++ cs)
one_right c [] cs among = among
one_right c (b ∷ bs) cs among = inr (one_right c bs cs among)

pub piece_among : (note : ℕ → NoteRuns) (b n c : ℕ) → IsPieceOf note b n c → IsOneOf c (blocks_of note b n)
piece_among note b zero c is = absurd is
piece_among note b (suc n) c (inl same) = inl same
piece_among note b (suc n) c (inr is) =
    inr (one_right c (note b).buffer (blocks_of note (note b).next n) (piece_among note (note b).next n c is))

pub lent_of : (w : Views) (n a : ℕ) (s : Sort) (c : ℕ) → s ≡ OfBuffer → a ≡ 32 * c → IsDriverOwned w n a s → IsLent (w.slot c)
lent_of w _ _ _ c is at the_list = absurd (cc)
lent_of w _ _ _ c is at the_head = absurd (cc)
lent_of w _ _ _ c is at (a_queue e z queued lent) = absurd (cc)
lent_of w _ _ _ c is at (a_dummy e z queued lent) = absurd (cc)
lent_of w _ _ _ c is at (a_piece u b r e transfer piece lent) = absurd (cc)
lent_of w _ _ _ c is at (a_buffer u b g gs r e transfer piece first lent) =
    subst (λ (i : ℕ). IsLent (w.slot i)) (let same : g ≡ c = omega (arith, at) in same) lent

pub leaves_itself : (m : Mem) → IsShaped m → Leaves m m
leaves_itself m shape = record { shape = shape; lent = λ b is. is; words = λ other on. refl }

pub new_on : (near : ℕ → Bool) (n : ℕ) → with_member near n n ≡ true
new_on near n = ap (λ (b : Bool). b || near n) (eq-eqb n n refl)

pub places_below : (k : ℕ) → k < 8 → place_in k < 8
places_below (suc (suc (suc (suc (suc (suc (suc (suc k)))))))) below = absurd (omega (arith, below))
places_below _ below = omega arith

pub partly_idle : (t : Qtd) (k : ℕ) → k < 8 → (partly t k).token.active ≡ false
partly_idle t (suc (suc (suc (suc (suc (suc (suc (suc k)))))))) below = absurd (omega (arith, below))
partly_idle t _ below = refl

pub sends_room : (s : Stage) → 0 + 4 * pieces (sends s) 4 ≤ 4096 * runs_of s + 3
sends_room s = let few = sends_few s in let room = has_room s.long in omega (arith, few, room)

pub led_on : (member : ℕ → Bool) (b : ℕ) → LeadsAmong member (to_queue_head b) → member (32 * b) ≡ true
led_on member b leads = ap member (same_to (32 * b) leads.to leads.leads) ∙ leads.on
  where
    same_to : (a c : ℕ) → links.Qh a ≡ links.Qh c → a ≡ c
    same_to a c same = cc

pub moved_is : (told left : ℕ) → moved_of told left ≡ told - left
moved_is told left = moved_by told left (nat_le left told) refl

pub set_else : (notes : List QtdNote) (c b : ℕ) (new : QtdNote) → b ≢ c
    → slice_index_or (slice_set notes c new) b no_note ≡ slice_index_or notes b no_note
set_else [] c b new differs = refl
set_else (a ∷ rest) zero zero new differs = absurd (differs refl)
set_else (a ∷ rest) zero (suc b) new differs = refl
set_else (a ∷ rest) (suc c) zero new differs = refl
set_else (a ∷ rest) (suc c) (suc b) new differs = set_else rest c b new (λ e. differs (ap suc e))

pub head_address : (r : RegisterFile) (b : Bool) → (cond b (after_advance r) r).async_list_address ≡ r.async_list_address
head_address r true = refl
head_address r false = refl

pub kept_before : (slots : List Slot) (b c : ℕ) (r s : Run) → slot_of slots b ≡ Keeps r → slot_of (set slots b (Lends r)) c ≡ Keeps s
    → slot_of slots c ≡ Keeps s
kept_before slots b c r s here there =
    ⊎_elim (λ (same : c ≡ b).
    absurd (lends_keeps r s (sym (get_or-set_same slots b (Lends r) Empty (keeps_within slots b r here))
    ∙ ap (slot_of (set slots b (Lends r))) (sym same) ∙ there)))
    (λ (differs : c ≢ b). sym (get_or-set_other slots b c (Lends r) Empty differs) ∙ there) (cases_eq c b)
