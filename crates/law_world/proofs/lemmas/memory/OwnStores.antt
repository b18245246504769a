-- A word that is stored is none of the controller's, where it lies in a structure that is told and is none of those that may be its own.
use Rattle.std.proofs.Common.{◌≡◌, ◌≢◌, ℕ, ◌+◌, ◌*◌, ◌/◌, ◌%◌, ◌<◌, ◌≤◌, Bool, true, false, if◌then◌else◌, List, length, Option, Some, None}
use Rattle.std.proofs.Common.{ap, refl, sym, subst, ◌∙◌, arith, ⊎_elim, inl, inr}
use Rattle.std.specs.Prelude.{◌⊎◌}
use Rattle.std.proofs.lemmas.Bool.{cases_lt, cases_eq}
use Rattle.std.proofs.lemmas.List.{get_or-set_other}
use Rattle.law_world.proofs.Common.{own_block as first_block}
use Rattle.word_mem.specs.Memory.{Mem, word_at, with_word, reaches}
use Rattle.mem_bytes.specs.Bytes.{place}
use Rattle.mem_runs.specs.Book.{Book, slot_of, can_store, store}
use Rattle.qh_qtd.specs.declared.qtd.Qtd.{Qtd}
use Rattle.qh_qtd.specs.declared.queue_head.Qh.{Qh}
use Rattle.mem_descriptors.specs.Descriptors.{slot_address}
use Rattle.claims_base.specs.Controller.{Base}
use Rattle.law_structures.specs.lent_structures.Structures.{Structure, QueueHead, Element, Buffer, Table, Isochronous, SplitIsochronous}
use Rattle.law_structures.specs.lent_structures.Structures.{IsOneOfTwo, Has, Holds, StructureSets}
use Rattle.law_structures.specs.lent_structures.Structures.{HoldsTable, Tells}
use Rattle.law_structures.proofs.lemmas.lent_structures.Standing.{reaches_if}
use Rattle.law_structures.proofs.lemmas.lent_structures.Telling.{told_lent}
use Rattle.law_frames.specs.FrameHand.{FrameHand}
use Rattle.law_controller.specs.frame_stores.Stores.{HasLink}
use Rattle.law_descriptors.specs.ListRows.{IsStoredIn, an_element, a_link}
use Rattle.law_world.specs.memory.Owners.{IsOwnIn, in_queue, in_qtd, in_itd, in_sitd, in_buffer, IsToldOwn}

-- ---- the block that it lies in

two_of : (at a i : ℕ) → a % 32 ≡ 0 → i < 12 → at ≡ a + 4 * i → IsOneOfTwo a (at / 32)
two_of at a i low few is =
    ⊎_elim (λ (first : i < 8). inl (omega (arith, low, first, is))) (λ (second : 8 ≤ i). inr (omega (arith, low, second, few, is)))
    (cases_lt i 8)

slot_of_two : (at a u : ℕ) → a % 32 ≡ 0 → u < 8 → at ≡ slot_address a u → IsOneOfTwo a (at / 32)
slot_of_two at a u low few is =
    ⊎_elim (λ (first : u < 7). inl (omega (arith, low, first, is))) (λ (last : 7 ≤ u). inr (omega (arith, low, last, few, is)))
    (cases_lt u 7)

own_block : (m : Mem) (at a : ℕ) (s : Structure) → Holds m a s → IsOwnIn at a s → Has a s (at / 32)
own_block m at a _ h (in_queue q i goes low high is) = two_of at a i h.aligned high is
own_block m at a _ h (in_qtd d active is) = let low = h.aligned in omega (arith, low, is)
own_block m at a _ h (in_itd v u few is) = slot_of_two at a u h.aligned few is
own_block m at a _ h (in_sitd v i low high is) = let on = h.aligned in omega (arith, on, high, is)
own_block m at a _ h (in_buffer pages k bs i few same) = (i, few, omega (arith, same))

pub told_reached : (m : Mem) (parts : StructureSets) (at : ℕ) → Tells m parts → IsToldOwn parts at → reaches m at ≡ true
told_reached m parts at tells o =
    reaches_if m at
    (told_lent m parts o.owner o.name o.structure (at / 32) tells o.here
    (own_block m at o.name o.structure (tells.each o.owner o.name o.structure o.here) o.own))

-- ---- the store

store_by : (m : Mem) (b : Bool) (st v at : ℕ) → at / 4 ≢ st / 4 → word_at (if b then with_word m st v else m) at ≡ word_at m at
store_by m true st v at off = get_or-set_other m.words (st / 4) (at / 4) v 0 off
store_by m false st v at off = refl

store_at : (k : Book) (m : Mem) (b st v at : ℕ) → word_at (store k m b st v) at ≢ word_at m at → at / 4 ≡ st / 4
store_at k m b st v at changed =
    ⊎_elim (λ (same : at / 4 ≡ st / 4). same) (λ (off : at / 4 ≢ st / 4). absurd
    (changed (store_by m (can_store (slot_of k.slots b) st) st v at off)))
    (cases_eq (at / 4) (st / 4))

abbrev pub IsNotOwn : ℕ → ℕ → Structure → Type 0
IsNotOwn st a s = (at : ℕ) → at % 4 ≡ 0 → at / 4 ≡ st / 4 → IsOwnIn at a s → ⊥

-- the structure at the place of the store
pub record IsStoreIn (parts : StructureSets) (st : ℕ) : Type 0 where
  pub owner : ℕ
  pub name : ℕ
  pub structure : Structure
  pub here : parts owner name ≡ Some structure
  pub has : Has name structure (st / 32)
  pub not_own : IsNotOwn st name structure

some_one : (s t : Structure) → Some s ≡ Some t → s ≡ t
some_one s t same = cc same

pub store_leaves : (k : Book) (m : Mem) (parts : StructureSets) (b st v : ℕ) → Tells m parts → IsStoreIn parts st → (at : ℕ) → at % 4 ≡ 0
    → word_at (store k m b st v) at ≢ word_at m at → IsToldOwn parts at → ⊥
store_leaves k m parts b st v tells x at low changed o =
    let same : at / 4 ≡ st / 4 = store_at k m b st v at changed in
    let block : at / 32 ≡ st / 32 = omega (arith, same) in
    let has : Has o.name o.structure (st / 32) =
    subst (Has o.name o.structure) block (own_block m at o.name o.structure (tells.each o.owner o.name o.structure o.here) o.own) in
    let one = tells.alone x.owner x.name o.owner o.name x.structure o.structure (st / 32) x.here o.here x.has has in
    let there : parts x.owner x.name ≡ Some o.structure =
    sym (ap (λ (j : ℕ). parts j o.name) one.0 ∙ ap (parts x.owner) one.1) ∙ o.here in
    let is : o.structure ≡ x.structure = some_one o.structure x.structure (sym there ∙ x.here) in
    x.not_own at low same (subst (λ (s : Structure). IsOwnIn at x.name s) is (subst (λ (a : ℕ). IsOwnIn at a o.structure) one.1 o.own))

-- a word that is none of the controller's there is none of its own
pub told_elsewhere : (m : Mem) (parts : StructureSets) (st : ℕ) → Tells m parts → IsStoreIn parts st → st % 4 ≡ 0 → IsToldOwn parts st → ⊥
told_elsewhere m parts st tells x low o =
    let has : Has o.name o.structure (st / 32) = own_block m st o.name o.structure (tells.each o.owner o.name o.structure o.here) o.own in
    let one = tells.alone x.owner x.name o.owner o.name x.structure o.structure (st / 32) x.here o.here x.has has in
    let there : parts x.owner x.name ≡ Some o.structure =
    sym (ap (λ (j : ℕ). parts j o.name) one.0 ∙ ap (parts x.owner) one.1) ∙ o.here in
    let is : o.structure ≡ x.structure = some_one o.structure x.structure (sym there ∙ x.here) in
    x.not_own st low refl (subst (λ (s : Structure). IsOwnIn st x.name s) is (subst (λ (a : ℕ). IsOwnIn st a o.structure) one.1 o.own))

-- ---- a link, an element of the frame list, a qTD that isn't active, an overlay that is halted

link_off : (at a : ℕ) (s : Structure) → HasLink s → at ≡ a → IsOwnIn at a s → ⊥
link_off at a _ has same (in_queue q i goes low high is) = omega (arith, same, low, is)
link_off at a _ has same (in_qtd d active is) = has
link_off at a _ has same (in_itd v u few is) = omega (arith, same, is)
link_off at a _ has same (in_sitd v i low high is) = omega (arith, same, low, is)
link_off at a _ has same (in_buffer pages k bs i few is) = has

table_off : (at a : ℕ) (s : Structure) (ws : List ℕ) → s ≡ Table ws → IsOwnIn at a s → ⊥
table_off at a _ ws same (in_queue q i goes low high is) = cc same
table_off at a _ ws same (in_qtd d active is) = cc same
table_off at a _ ws same (in_itd v u few is) = cc same
table_off at a _ ws same (in_sitd v i low high is) = cc same
table_off at a _ ws same (in_buffer pages k bs i few is) = cc same

pub element_off : (at a : ℕ) (s : Structure) (d : Qtd) → s ≡ Element d → d.token.active ≡ false → IsOwnIn at a s → ⊥
element_off at a _ d same off (in_queue q i goes low high is) = cc same
element_off at a _ d same off (in_qtd e active is) = let one : e ≡ d = cc same in cc
    (off, sym (ap (λ (x : Qtd). x.token.active) one) ∙ active)
element_off at a _ d same off (in_itd v u few is) = cc same
element_off at a _ d same off (in_sitd v i low high is) = cc same
element_off at a _ d same off (in_buffer pages k bs i few is) = cc same

pub halted_off : (at a : ℕ) (s : Structure) (q : Qh) → s ≡ QueueHead q → q.token.halted ≡ true → IsOwnIn at a s → ⊥
halted_off at a _ q same halted (in_queue p i goes low high is) =
    let one : p ≡ q = cc same in cc (halted, sym (ap (λ (x : Qh). x.token.halted) one) ∙ goes)
halted_off at a _ q same halted (in_qtd d active is) = cc same
halted_off at a _ q same halted (in_itd v u few is) = cc same
halted_off at a _ q same halted (in_sitd v i low high is) = cc same
halted_off at a _ q same halted (in_buffer pages k bs i few is) = cc same

link_low : (m : Mem) (a : ℕ) (s : Structure) → HasLink s → Holds m a s → a % 32 ≡ 0
link_low m a (QueueHead q) has h = h.aligned
link_low m a (Element t) has h = absurd has
link_low m a (Buffer pages k bs) has h = absurd has
link_low m a (Table ws) has h = absurd has
link_low m a (Isochronous v) has h = h.aligned
link_low m a (SplitIsochronous v) has h = h.aligned

pub link_store : (m : Mem) (parts : StructureSets) (n a : ℕ) (s : Structure) → Tells m parts → parts n a ≡ Some s → HasLink s
    → IsStoreIn parts a
link_store m parts n a s tells here has =
    let on : a % 32 ≡ 0 = link_low m a s has (tells.each n a s here) in
    record {
      owner = n;
      name = a;
      structure = s;
      here = here;
      has = first_block a s has;
      not_own = λ at low same. link_off at a s has (omega (arith, on, low, same));
    }

element_store : (m : Mem) (parts : StructureSets) (base : ℕ) (words : List ℕ) (k : ℕ) → parts base base ≡ Some (Table words)
    → length words ≡ 1024 → k < 1024
    → IsStoreIn parts (base + 4 * k)
element_store m parts base words k here size low = record {
  owner = base;
  name = base;
  structure = Table words;
  here = here;
  has = (k, omega (arith, size, low), refl);
  not_own = λ at on same. table_off at base (Table words) words refl;
}

-- a store of the driver's frame list
pub list_store : (m : Mem) (base : Base) (parts : StructureSets) (frame : FrameHand) (at v : ℕ) (now : StructureSets) (later : FrameHand)
    → Tells m parts
    → IsStoredIn base parts frame at v now later → IsStoreIn parts at
list_store m base parts frame at v now later tells (an_element k list below is now_is later_is) =
    subst (IsStoreIn parts) (sym is) (element_store m parts base.periodic_list_base list.words k list.here list.size below)
list_store m base parts frame at v now later tells (a_link s here has now_is later_is) = link_store m parts at at s tells here has
