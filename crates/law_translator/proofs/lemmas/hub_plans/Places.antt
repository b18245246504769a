-- Where no two of what is placed have one key, each is found by its key.
use Rattle.std.proofs.Common.{◌≡◌, Bool, false, cond, List, [], ◌∷◌, Some, ap, ◌∙◌}
use Rattle.std.specs.List.{AllByRecursion}
use Rattle.law_translator.proofs.Common.{same_key}
use Rattle.hub_keys.specs.Keys.{is_same_key}
use Rattle.hub_keys.specs.declared.key.Key.{Key}
use Rattle.bandwidth.specs.declared.placements.Placed.{Placed}
use Rattle.law_translator.specs.hub_plans.HubPlans.{AreKeysApart}
use Rattle.claims_world.specs.HubPlans.{placed_as, first_of, times_of}
use Rattle.law_translator.specs.hub_plans.Laws.{IsKeptIn, PlacesAreKept}

module _ (key : Placed → Key) where
  abbrev pub IsFoundIn : List Placed → Placed → Type 0
  IsFoundIn placed y = placed_as key placed (key y) ≡ Some y

  one_later : (y z : Placed) (ys : List Placed) → is_same_key (key y) (key z) ≡ false → IsFoundIn ys z → IsFoundIn (y ∷ ys) z
  one_later y z ys other found = ap (λ (b : Bool). cond b (Some y) (placed_as key ys (key z))) other ∙ found

  later : (y : Placed) (ys zs : List Placed) → AllByRecursion (λ z. is_same_key (key y) (key z) ≡ false) zs
      → AllByRecursion (IsFoundIn ys) zs → AllByRecursion (IsFoundIn (y ∷ ys)) zs
  later y ys [] others found = tt
  later y ys (z ∷ zs) others found = (one_later y z ys others.0 found.0, later y ys zs others.1 found.1)

  pub all_found : (ys : List Placed) → AreKeysApart key ys → AllByRecursion (IsFoundIn ys) ys
  all_found [] apart = tt
  all_found (y ∷ ys) apart = (
    ap (λ (b : Bool). cond b (Some y) (placed_as key ys (key y))) (same_key (key y)),
    later y ys ys apart.0 (all_found ys apart.1),
  )

  kept_all : (placed ys : List Placed) → AllByRecursion (IsFoundIn placed) ys → AllByRecursion (IsKeptIn key placed) ys
  kept_all placed [] found = tt
  kept_all placed (y ∷ ys) found = ((ap first_of found.0, ap times_of found.0), kept_all placed ys found.1)

pub places_are_kept : PlacesAreKept
places_are_kept key placed apart = kept_all key placed placed (all_found key placed apart)
