use Rattle.std.proofs.Common.{◌≡◌, ℕ, zero, suc, slice_get, Some, refl, sym, ap, subst}
use Rattle.std.proofs.lemmas.Option.{same_Some}
use Rattle.drv_chains.specs.declared.boundary.Boundary.TheVariants.{Since}
use Rattle.drv_periodic_table.specs.declared.content.Removal.{Removal}
use Rattle.drv_periodic_table.specs.declared.content.Removed.TheVariants as removed
use Rattle.drv_table.specs.declared.content.Endpoint.{Endpoint}
use Rattle.claims_driver.specs.Unlinked.{IsOpenAt}
use Rattle.law_microframes.specs.plans.Samples.{camera, its_place, filmed}
use Rattle.law_microframes.specs.translators.Samples.{leaving}
use Rattle.law_microframes.proofs.translators.worked.a_camera_is_owned.Goals as goal

pub returns-clause-owned : goal.returns-clause-owned
returns-clause-owned c = record {
  number = 0;
  endpoint = _;
  desc = camera 1;
  placement = its_place;
  here = refl;
  described = refl;
  planned = record { place = 0; there = refl };
  below = refl;
  numbers = refl;
  is = refl;
  still_open = λ i r at what. cc;
}

first_open : (i : ℕ) (r : Removal) → slice_get (leaving (Since 0)).periodic.removals i ≡ Some r → IsOpenAt 1 r.boundary
first_open zero r at = subst (λ (z : Removal). IsOpenAt 1 z.boundary) (same_Some _ r at) refl
first_open (suc i) r at = cc

pub returns-clause-leaving : goal.returns-clause-leaving
returns-clause-leaving c = record {
  number = 0;
  endpoint = _;
  desc = camera 1;
  placement = its_place;
  here = refl;
  described = refl;
  planned = record { place = 0; there = refl };
  below = refl;
  numbers = refl;
  is = refl;
  still_open = λ i r at what. first_open i r at;
}

-- the only endpoint is that of the removal
only_one : (n : ℕ) (e : Endpoint) → slice_get filmed.endpoints n ≡ Some e → n ≡ 0
only_one zero e here = refl
only_one (suc n) e here = cc

pub returns-clause-left : goal.returns-clause-left
returns-clause-left c = λ o. o.still_open 0 _ refl (ap removed.Endpoint (sym (only_one o.number o.endpoint o.here)))
