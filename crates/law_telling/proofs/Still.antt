-- Transfers that stay what they are, in lists.
use Rattle.std.proofs.Common.{◌≡◌, ℕ, zero, suc, Bool, true, false, cond, ◌||◌, List, [], ◌∷◌, length, map, set, slice_get, Some, ap, sym, subst, ◌∙◌, refl}
use Rattle.std.specs.Prelude.{◌==◌}
use Rattle.std.proofs.lemmas.Option.{same_Some}
use Rattle.law_common.proofs.Booleans.{left_or}
use Rattle.drv_table.specs.declared.content.Transfer.{Transfer}
use Rattle.drv_table.specs.DriverContent.{waits_for}
use Rattle.drv_table.specs.Releases.{let_go}
use Rattle.drv_table.specs.Removals.{let_go_waiting, let_go_placed}
use Rattle.claims_answers.specs.Passing.{IsLater, Stays}

-- ---- lists of transfers, one by one

pub record IsStill (y z : Transfer) : Type 0 where
  pub later : IsLater y z
  pub stays : Stays y z

module _ (R : Transfer → Transfer → Type 0) where
  abbrev pub AreAll : List Transfer → List Transfer → Type 0
  AreAll [] [] = Unit {0}
  AreAll (y ∷ ys) (z ∷ zs) = R y z × AreAll ys zs
  AreAll _ _ = ⊥

  pub as_many : (ys zs : List Transfer) → AreAll ys zs → length zs ≡ length ys
  as_many [] [] all = refl
  as_many (y ∷ ys) (z ∷ zs) all = ap suc (as_many ys zs all.1)
  as_many [] (z ∷ zs) all = absurd all
  as_many (y ∷ ys) [] all = absurd all

  pub at_each : (ys zs : List Transfer) → AreAll ys zs → (t : ℕ) (y z : Transfer) → slice_get ys t ≡ Some y → slice_get zs t ≡ Some z
      → R y z
  at_each [] zs all t y z here there = absurd (no t here)
    where
      no : (i : ℕ) → slice_get {X = Transfer} [] i ≡ Some y → ⊥
      no zero e = cc
      no (suc i) e = cc
  at_each (a ∷ ys) (b ∷ zs) all zero y z here there =
      subst (λ (v : Transfer). R v z) (same_Some a y here) (subst (R a) (same_Some b z there) all.0)
  at_each (a ∷ ys) (b ∷ zs) all (suc t) y z here there = at_each ys zs all.1 t y z here there
  at_each (a ∷ ys) [] all t y z here there = absurd all

  module _ (same : (y : Transfer) → R y y) where
    pub all_same : (ys : List Transfer) → AreAll ys ys
    all_same [] = tt
    all_same (y ∷ ys) = (same y, all_same ys)

    pub all_set : (ys : List Transfer) (t : ℕ) (y z : Transfer) → slice_get ys t ≡ Some y → R y z → AreAll ys (set ys t z)
    all_set [] t y z here r = tt
    all_set (a ∷ ys) zero y z here r = (subst (λ (v : Transfer). R v z) (sym (same_Some a y here)) r, all_same ys)
    all_set (a ∷ ys) (suc t) y z here r = (same a, all_set ys t y z here r)

  pub all_map : (f : Transfer → Transfer) → ((y : Transfer) → R y (f y)) → (ys : List Transfer) → AreAll ys (map f ys)
  all_map f each [] = tt
  all_map f each (y ∷ ys) = (each y, all_map f each ys)

  module _ (both : (a b c : Transfer) → R a b → R b c → R a c) where
    pub all_both : (xs ys zs : List Transfer) → AreAll xs ys → AreAll ys zs → AreAll xs zs
    all_both [] [] zs one two = two
    all_both (x ∷ xs) (y ∷ ys) (z ∷ zs) one two = (both x y z one.0 two.0, all_both xs ys zs one.1 two.1)
    all_both [] (y ∷ ys) zs one two = absurd one
    all_both (x ∷ xs) [] zs one two = absurd one
    all_both (x ∷ xs) (y ∷ ys) [] one two = absurd two

pub same_later : (y : Transfer) → IsLater y y
same_later y = record { endpoint = refl; sort = refl; first = refl; qtds = refl; most = refl; told = λ r. r; returned = λ r. r }

pub same_still : (y : Transfer) → IsStill y y
same_still y = record { later = same_later y; stays = record { place = refl; left = refl } }

pub both_still : (a b c : Transfer) → IsStill a b → IsStill b c → IsStill a c
both_still a b c one two = record {
  later = record {
    endpoint = two.later.endpoint ∙ one.later.endpoint;
    sort = two.later.sort ∙ one.later.sort;
    first = two.later.first ∙ one.later.first;
    qtds = two.later.qtds ∙ one.later.qtds;
    most = two.later.most ∙ one.later.most;
    told = λ r. two.later.told (one.later.told r);
    returned = λ r. two.later.returned (one.later.returned r);
  };
  stays = record { place = two.stays.place ∙ one.stays.place; left = two.stays.left ∙ one.stays.left };
}

abbrev pub AreStill : List Transfer → List Transfer → Type 0
AreStill ys zs = AreAll IsStill ys zs

pub told_still : (y : Transfer) → IsStill y (record y { reported = true })
told_still y = record {
  later = record { endpoint = refl; sort = refl; first = refl; qtds = refl; most = refl; told = λ r. refl; returned = λ r. r };
  stays = record { place = refl; left = refl };
}

pub returned_still : (y : Transfer) → IsStill y (record y { released = true })
returned_still y = record {
  later = record { endpoint = refl; sort = refl; first = refl; qtds = refl; most = refl; told = λ r. r; returned = λ r. refl };
  stays = record { place = refl; left = refl };
}

pub gone_still : (told : Bool) (y : Transfer) → IsStill y (record y { reported = y.reported || told; released = true })
gone_still told y = record {
  later = record {
    endpoint = refl;
    sort = refl;
    first = refl;
    qtds = refl;
    most = refl;
    told = left_or y.reported told;
    returned = λ r. refl;
  };
  stays = record { place = refl; left = refl };
}

pub let_go_still : (e : ℕ) (told : Bool) (y : Transfer) → IsStill y (let_go e told y)
let_go_still e told y = at (y.endpoint == e)
  where
    at : (b : Bool) → IsStill y (cond b (record y { reported = y.reported || told; released = true }) y)
    at true = gone_still told y
    at false = same_still y

pub waiting_still : (e : ℕ) (told : Bool) (y : Transfer) → IsStill y (let_go_waiting e told y)
waiting_still e told y = at (waits_for e y)
  where
    at : (b : Bool) → IsStill y (cond b (record y { reported = y.reported || told; released = true }) y)
    at true = gone_still told y
    at false = same_still y

pub placed_still : (iso : Bool) (e : ℕ) (told : Bool) (y : Transfer) → IsStill y (let_go_placed iso e told y)
placed_still true e told y = waiting_still e told y
placed_still false e told y = let_go_still e told y
