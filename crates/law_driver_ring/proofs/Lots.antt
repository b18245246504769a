-- Structures that are lent together, each with the runs in which it lies.
use Rattle.std.proofs.Common.{◌≡◌, ◌≢◌, ℕ, ◌*◌, ◌⊎◌, List, [], ◌∷◌, ◌++◌, map, Some, ap, sym, subst, ◌∙◌, ⊎_elim, inl, inr, arith}
use Rattle.std.specs.List.{AllByRecursion, flat_map}
use Rattle.word_mem.specs.Memory.{Mem}
use Rattle.mem_runs.specs.declared.slots.Slot.{Slot}
use Rattle.mem_runs.specs.Book.{Holding, slot_of, Stands}
use Rattle.law_driver.proofs.lemmas.run_owners.Apart.{runs_apart}
use Rattle.law_structures.specs.lent_structures.Structures.{Structure, StructureSets, Holds, Has}
use Rattle.law_structures.proofs.lemmas.lent_structures.Names.{put_same, put_else, put_found}
use Rattle.law_ring.specs.Together.{Item, put_all, ShareNoBlock, AreNew}
use Rattle.law_driver_ring.specs.Written.{AreAllApart}
use Rattle.law_driver_ring.proofs.Lists.{IsOneOf, one_left, one_right, apart_right, apart_halves}
use Rattle.law_driver_ring.proofs.Holding.{IsKeptIn, kept_fresh}

pub record Lot : Type 0 where
  pub item : Item
  pub runs : List ℕ

abbrev pub items : List Lot → List Item
items ls = map (λ l. l.item) ls

abbrev pub all_runs : List Lot → List ℕ
all_runs ls = flat_map (λ l. l.runs) ls

-- a name is where one of the runs begins
pub record NamesOne (cs : List ℕ) (name : ℕ) : Type 0 where
  pub at : ℕ
  pub one : IsOneOf at cs
  pub is : name ≡ 32 * at

pub record IsLot (slot : ℕ → Slot) (after : Mem) (l : Lot) : Type 0 where
  pub holds : Holds after l.item.name l.item.structure
  pub covers : (b : ℕ) → Has l.item.name l.item.structure b → IsKeptIn slot l.runs b
  pub named : NamesOne l.runs l.item.name

-- ---- they share no block

two_kept : (h : Holding) (xs ys : List ℕ) (b : ℕ) → Stands h → ((c k : ℕ) → IsOneOf c xs → IsOneOf k ys → c ≢ k) → IsKeptIn (slot_of h.book.slots) xs b → IsKeptIn (slot_of h.book.slots) ys b → ⊥
two_kept h xs ys b stands differ one two = runs_apart h two.at one.at b stands (differ one.at two.at one.one two.one) two.has one.has

share_none : (h : Holding) (after : Mem) (l : Lot) (ls : List Lot) → Stands h → IsLot (slot_of h.book.slots) after l → AllByRecursion (IsLot (slot_of h.book.slots) after) ls → ((c k : ℕ) → IsOneOf c l.runs → IsOneOf k (all_runs ls) → c ≢ k) → AllByRecursion (ShareNoBlock l.item) (items ls)
share_none h after l [] stands one all differ = tt
share_none h after l (k ∷ ks) stands one all differ = (
  λ b has also. two_kept h l.runs k.runs b stands (λ c i in_l in_k. differ c i in_l (one_left i k.runs (all_runs ks) in_k)) (one.covers b has) (all.0.covers b also),
  share_none h after l ks stands one all.1 (λ c i in_l in_ks. differ c i in_l (one_right i k.runs (all_runs ks) in_ks)),
)

pub lots_new : (h : Holding) (after : Mem) (ls : List Lot) → Stands h → AllByRecursion (IsLot (slot_of h.book.slots) after) ls → AreAllApart (all_runs ls) → AreNew h.memory after (items ls)
lots_new h after [] stands all apart = tt
lots_new h after (l ∷ ls) stands all apart = (
  record { holds = all.0.holds; fresh = λ b has lent. kept_fresh h l.runs b stands (all.0.covers b has) lent },
  share_none h after l ls stands all.0 all.1 (λ c k one two. apart_halves l.runs (all_runs ls) c k apart one two),
  lots_new h after ls stands all.1 (apart_right l.runs (all_runs ls) apart),
)

-- ---- their names

pub each_named : (slot : ℕ → Slot) (after : Mem) (ls : List Lot) (P : ℕ → Type 0) → AllByRecursion (IsLot slot after) ls → ((c : ℕ) → IsOneOf c (all_runs ls) → P (32 * c)) → AllByRecursion (λ (i : Item). P i.name) (items ls)
each_named slot after [] P all each = tt
each_named slot after (l ∷ ls) P all each = (
  subst P (sym all.0.named.is) (each all.0.named.at (one_left all.0.named.at l.runs (all_runs ls) all.0.named.one)),
  each_named slot after ls P all.1 (λ c one. each c (one_right c l.runs (all_runs ls) one)),
)

-- the structure u has the name a among these
abbrev pub IsItem : List Item → ℕ → Structure → Type 0
IsItem [] a u = ⊥
IsItem (i ∷ is) a u = ((a ≡ i.name) × (u ≡ i.structure)) ⊎ IsItem is a u

pub item_left : (is js : List Item) (a : ℕ) (u : Structure) → IsItem is a u → IsItem (is ++ js) a u
item_left [] js a u there = absurd there
item_left (i ∷ is) js a u (inl here) = inl here
item_left (i ∷ is) js a u (inr there) = inr (item_left is js a u there)

pub item_right : (is js : List Item) (a : ℕ) (u : Structure) → IsItem js a u → IsItem (is ++ js) a u
item_right [] js a u there = there
item_right (i ∷ is) js a u there = inr (item_right is js a u there)

pub item_either : (is js : List Item) (a : ℕ) (u : Structure) → IsItem (is ++ js) a u → IsItem is a u ⊎ IsItem js a u
item_either [] js a u there = inr there
item_either (i ∷ is) js a u (inl here) = inl (inl here)
item_either (i ∷ is) js a u (inr there) = ⊎_elim (λ (left : IsItem is a u). inl (inr left)) (λ (right : IsItem js a u). inr right) (item_either is js a u there)

pub named_item : (slot : ℕ → Slot) (after : Mem) (ls : List Lot) (a : ℕ) (u : Structure) → AllByRecursion (IsLot slot after) ls → IsItem (items ls) a u → NamesOne (all_runs ls) a
named_item slot after [] a u all there = absurd there
named_item slot after (l ∷ ls) a u all (inl here) = record { at = all.0.named.at; one = one_left all.0.named.at l.runs (all_runs ls) all.0.named.one; is = here.0 ∙ all.0.named.is }
named_item slot after (l ∷ ls) a u all (inr there) = let n = named_item slot after ls a u all.1 there in record { at = n.at; one = one_right n.at l.runs (all_runs ls) n.one; is = n.is }

-- ---- what is found

pub all_found : (parts : StructureSets) (n : ℕ) (is : List Item) (k a : ℕ) (u : Structure) → put_all parts n is k a ≡ Some u → ((k ≡ n) × IsItem is a u) ⊎ (parts k a ≡ Some u)
all_found parts n [] k a u found = inr found
all_found parts n (i ∷ is) k a u found =
    ⊎_elim (λ (new : (k ≡ n) × (a ≡ i.name) × (u ≡ i.structure)). inl (new.0, inl (new.1, new.2)))
    (λ (old : put_all parts n is k a ≡ Some u).
    ⊎_elim (λ (there : (k ≡ n) × IsItem is a u). inl (there.0, inr there.1)) (λ (before : parts k a ≡ Some u). inr before) (all_found parts n is k a u old))
    (put_found (put_all parts n is) n i.name i.structure k a u found)

pub all_here : (slot : ℕ → Slot) (after : Mem) (parts : StructureSets) (n : ℕ) (ls : List Lot) (a : ℕ) (u : Structure) → AllByRecursion (IsLot slot after) ls → AreAllApart (all_runs ls) → IsItem (items ls) a u → put_all parts n (items ls) n a ≡ Some u
all_here slot after parts n [] a u all apart there = absurd there
all_here slot after parts n (l ∷ ls) a u all apart (inl here) =
    ap (put_all parts n (items (l ∷ ls)) n) here.0 ∙ put_same (put_all parts n (items ls)) n l.item.name l.item.structure ∙ ap Some (sym here.1)
all_here slot after parts n (l ∷ ls) a u all apart (inr there) =
    let named = named_item slot after ls a u all.1 there in
    let mine = all.0.named in
    put_else (put_all parts n (items ls)) n l.item.name l.item.structure a
    (λ same. apart_halves l.runs (all_runs ls) mine.at named.at apart mine.one named.one (let e = mine.is in let f = named.is in omega (arith, e, f, same)))
    ∙ all_here slot after parts n ls a u all.1 (apart_right l.runs (all_runs ls) apart) there
