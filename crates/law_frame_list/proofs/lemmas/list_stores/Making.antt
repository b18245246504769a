-- The next store of the list is made, and the words stand for the list.
use Rattle.std.proofs.Common.{◌≡◌, ℕ, ◌+◌, ◌*◌, ◌/◌, ◌%◌, ◌<◌, ◌≤◌, Bool, true, false, nat_eq, length, slice_get, Option, Some, None, if◌then◌else◌, ap, refl, sym, subst, ◌∙◌, arith}
use Rattle.std.specs.Prelude.{nat_le, nat_lt, option_map, option_and_then}
use Rattle.std.proofs.lemmas.Bool.{and_from, le-leb, lt-ltb, eqb-true, eq-eqb}
use Rattle.std.proofs.lemmas.List.{get_or-set_same, get_or-set_other}
use Rattle.std.proofs.lemmas.Option.{same_Some}
use Rattle.law_common.proofs.Lists.{nth_all}
use Rattle.law_frame_list.proofs.Common.{within_by, aligned}
use Rattle.word_mem.specs.Memory.{Mem, IsShaped, word_at, with_word}
use Rattle.word_mem.specs.Runs.{Run}
use Rattle.mem_runs.specs.declared.slots.Slot.{Slot}
use Rattle.mem_runs.specs.declared.slots.Slot.TheVariants as slots
use Rattle.mem_runs.specs.Book.{holding, slot_of, IsAt, has_address, can_store, store, Stands}
use Rattle.drv_chains.specs.declared.members.Member.{Member}
use Rattle.drv_chains.specs.declared.members.Predecessor.{Predecessor}
use Rattle.drv_chains.specs.declared.members.Predecessor.TheVariants.{Element, After}
use Rattle.drv_chains.specs.Chains.{Schedule, id_of}
use Rattle.drv_members.specs.Members.{IsKept, is_linked}
use Rattle.drv_periodic.specs.declared.work.Work.{Work}
use Rattle.drv_periodic.specs.declared.work.Store.{Store}
use Rattle.drv_periodic.specs.Periodic.{Periodic, address_of, block_of, words_of, value_of, store_at, store_of, next_store, after_store}
use Rattle.claims_driver.specs.FrameWords.{IsInOrder, StandFor, ListStands}
use Rattle.law_frame_words.specs.frame_words.InWords.{with_value}
use Rattle.law_frame_words.proofs.lemmas.frame_words.Decoded.{IsWordOf}
use Rattle.law_frame_words.proofs.lemmas.frame_words.InChains.{words_in}
use Rattle.law_frame_words.proofs.lemmas.frame_words.Steps.{one_store}
use Rattle.law_frame_words.proofs.lemmas.frame_words.Order.{store_in_order}
use Rattle.drv_table.specs.DriverContent.{DriverContent}
use Rattle.claims_driver.specs.Owners.{HasBlocks}
use Rattle.claims_driver.specs.Leaving.{HasOwners}
use Rattle.law_driver.specs.listed_members.Members.{IsListed}
use Rattle.law_frame_words.proofs.lemmas.list_words.Sparing.{what_leaves_its_words_leaves_the_list}
use Rattle.law_frame_list.proofs.lemmas.list_spread.Spreading.{IsHis, his, members_share_no_block}
use Rattle.law_frame_list.specs.list_stores.Storing.{IsStoredFor}

-- ---- where the store goes

pub record GoesTo (list : ℕ) (s : Schedule) (st : Store) : Type 0 where
  pub word : Predecessor
  pub its : IsWordOf s word
  pub block : st.block ≡ block_of list word
  pub at : st.at ≡ address_of list word

goes_by : (list : ℕ) (s : Schedule) (w : Work) (st : Store) (o : Option Predecessor) → IsKept s → slice_get (words_of s w) w.made ≡ o → option_map (λ word. store_at list word (value_of s w)) o ≡ Some st → GoesTo list s st
goes_by list s w st None kept there is = absurd cc
goes_by list s w st (Some p) kept there is =
    let e : store_at list p (value_of s w) ≡ st = same_Some (store_at list p (value_of s w)) st is in
    record { word = p; its = nth_all (IsWordOf s) (words_of s w) w.made p (words_in s w.member kept) there; block = ap (λ (x : Store). x.block) (sym e); at = ap (λ (x : Store). x.at) (sym e) }

goes_to : (list : ℕ) (s : Schedule) (o : Option Work) (st : Store) → IsKept s → option_and_then (λ w. store_of list s w) o ≡ Some st → GoesTo list s st
goes_to list s None st kept is = absurd cc
goes_to list s (Some w) st kept is = goes_by list s w st (slice_get (words_of s w) w.made) kept refl is

-- ---- it is made

address_in : (r : Run) (a n at : ℕ) → r.first ≡ a → r.blocks ≡ n → 32 * a ≤ at → at < 32 * (a + n) → has_address r at ≡ true
address_in r a n at first blocks low high =
    and_from (nat_le (32 * r.first) at) (nat_lt at (32 * (r.first + r.blocks))) (le-leb (32 * r.first) at (omega (arith, first, low))) (lt-ltb at (32 * (r.first + r.blocks)) (omega (arith, first, blocks, high)))

can_by : (s : Slot) (a n at : ℕ) → IsAt a s → HasBlocks n s → 32 * a ≤ at → at < 32 * (a + n) → can_store s at ≡ true
can_by slots.Empty a n at is run low high = absurd run
can_by (slots.Keeps r) a n at is run low high = address_in r a n at is.0 run low high
can_by (slots.Lends r) a n at is run low high = address_in r a n at is.0 run low high

pub record IsMade (d : DriverContent) (m : Mem) (w : Predecessor) : Type 0 where
  pub can : can_store (slot_of d.book.slots (block_of 0 w)) (address_of 0 w) ≡ true
  pub inside : address_of 0 w / 4 < length m.words

element_made : (d : DriverContent) (m : Mem) (f : ℕ) → Stands (holding d.book m) → IsShaped m → HasOwners d → f < 1024 → IsMade d m (Element f)
element_made d m f stands shape has below = record {
  can = can_by (slot_of d.book.slots 0) 0 128 (32 * 0 + 4 * f) (stands.placed 0) has.owned.each.list.run (omega arith) (omega (arith, below));
  inside = (let least = shape.at_least in omega (arith, least, below));
}

member_made : (d : DriverContent) (m : Mem) (x : Member) → Stands (holding d.book m) → IsShaped m → HasOwners d → IsListed d → is_linked d.periodic.list.members.schedule x ≡ true → IsMade d m (After x)
member_made d m x stands shape has listed on =
    let h : IsHis d has.owner (id_of x / 32) = his d x has listed on in
    let some = h.run.1.0 in
    let low = within_by d.book.slots (id_of x / 32) h.run.0 (slot_of d.book.slots (id_of x / 32)) refl h.run.1.1 in
    let sizes = stands.sizes in
    let most = shape.at_most in
    let eight = shape.eight_each in
    let block : id_of x / 32 % 65536 ≡ id_of x / 32 = omega (arith, low, sizes, most, eight) in
    record {
      can = ap (λ (b : ℕ). can_store (slot_of d.book.slots b) (id_of x / 32 * 32)) block
          ∙ can_by (slot_of d.book.slots (id_of x / 32)) (id_of x / 32) h.run.0 (id_of x / 32 * 32) (stands.placed (id_of x / 32)) h.run.1.1 (omega arith) (omega (arith, some));
      inside = omega (arith, low, sizes, eight);
    }

made_at : (d : DriverContent) (m : Mem) (w : Predecessor) → Stands (holding d.book m) → IsShaped m → HasOwners d → IsListed d → IsWordOf d.periodic.list.members.schedule w → IsMade d m w
made_at d m (Element f) stands shape has listed its = element_made d m f stands shape has its
made_at d m (After x) stands shape has listed its = member_made d m x stands shape has listed its

-- ---- the words after it

word_by : (m : Mem) (at v a : ℕ) (b : Bool) → nat_eq a at ≡ b → at % 4 ≡ 0 → a % 4 ≡ 0 → at / 4 < length m.words → (a ≡ at → b ≡ true) → word_at (with_word m at v) a ≡ (if b then v else word_at m a)
word_by m at v a true is one two inside test = let e : a ≡ at = eqb-true a at is in ap (word_at (with_word m at v)) e ∙ get_or-set_same m.words (at / 4) v 0 inside
word_by m at v a false is one two inside test =
    get_or-set_other m.words (at / 4) (a / 4) v 0 (λ same. let e : a ≡ at = omega (arith, same, one, two) in let f : false ≡ true = test e in cc)

same_test : (a at : ℕ) → a ≡ at → nat_eq a at ≡ true
same_test a at e = eq-eqb a at e

-- its block is kept or lent
pub store_written : (d : DriverContent) (m : Mem) (o : Option Work) (s : Store) → Stands (holding d.book m) → IsShaped m → HasOwners d → IsListed d → IsKept d.periodic.list.members.schedule
    → option_and_then (λ w. store_of d.periodic.list.list d.periodic.list.members.schedule w) o ≡ Some s → store d.book m s.block s.at s.value ≡ with_word m s.at s.value
store_written d m o s stands shape has listed kept is =
    let g : GoesTo d.periodic.list.list d.periodic.list.members.schedule s = goes_to d.periodic.list.list d.periodic.list.members.schedule o s kept is in
    let zero_list : d.periodic.list.list ≡ 0 = listed.list.list in
    let made : IsMade d m g.word = made_at d m g.word stands shape has listed g.its in
    let at : s.at ≡ address_of 0 g.word = g.at ∙ ap (λ (l : ℕ). address_of l g.word) zero_list in
    let block : s.block ≡ block_of 0 g.word = g.block ∙ ap (λ (l : ℕ). block_of l g.word) zero_list in
    let can : can_store (slot_of d.book.slots s.block) s.at ≡ true = ap (λ (b : ℕ). can_store (slot_of d.book.slots b) s.at) block ∙ ap (can_store (slot_of d.book.slots (block_of 0 g.word))) at ∙ made.can in
    ap (λ (b : Bool). if b then with_word m s.at s.value else m) can

pub each_store_of_the_list_is_made : (d : DriverContent) (m : Mem) (s : Store) → Stands (holding d.book m) → IsShaped m → HasOwners d → IsListed d → ListStands m d → next_store d.periodic.list ≡ Some s → IsStoredFor m d s
each_store_of_the_list_is_made d m s stands shape has listed old is =
    let p : Periodic = d.periodic.list in
    let g : GoesTo p.list p.members.schedule s = goes_to p.list p.members.schedule p.work s old.order.kept is in
    let zero_list : p.list ≡ 0 = listed.list.list in
    let made : IsMade d m g.word = made_at d m g.word stands shape has listed g.its in
    let at : s.at ≡ address_of 0 g.word = g.at ∙ ap (λ (l : ℕ). address_of l g.word) zero_list in
    let block : s.block ≡ block_of 0 g.word = g.block ∙ ap (λ (l : ℕ). block_of l g.word) zero_list in
    let can : can_store (slot_of d.book.slots s.block) s.at ≡ true = ap (λ (b : ℕ). can_store (slot_of d.book.slots b) s.at) block ∙ ap (can_store (slot_of d.book.slots (block_of 0 g.word))) at ∙ made.can in
    let written : store d.book m s.block s.at s.value ≡ with_word m s.at s.value = ap (λ (b : Bool). if b then with_word m s.at s.value else m) can in
    let low : s.at % 4 ≡ 0 = ap (λ (n : ℕ). n % 4) at ∙ aligned 0 g.word in
    let inside : s.at / 4 < length m.words = subst (λ (n : ℕ). n / 4 < length m.words) (sym at) made.inside in
    let order : IsInOrder (after_store p) = store_in_order p old.order in
    record {
      order = order;
      words = subst (λ (x : Mem). StandFor (after_store p) (word_at x)) (sym written)
          (what_leaves_its_words_leaves_the_list (after_store p) (with_value (word_at m) s.at s.value) (word_at (with_word m s.at s.value))
          order
          (λ w its. word_by m s.at s.value (address_of (after_store p).list w) (nat_eq (address_of (after_store p).list w) s.at) refl low (aligned (after_store p).list w) inside (same_test (address_of (after_store p).list w) s.at))
          (one_store p s (word_at m) old.order.kept (members_share_no_block d m stands has listed) old.order.member old.words is));
    }
