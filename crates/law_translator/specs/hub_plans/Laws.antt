-- Where all that is placed keeps the budgets, the plan of each translator fits in each frame (USB 2.0, 11.18.1 and 11.18.4).
--     IsPlacedRight y      what is placed may be asked for, and is placed as it may be
--     HubPlansFit          the plan of each translator lays at most 188 byte-times in each microframe
--     PlacesAreKept        the plan has each endpoint at its first microframe, with its byte-times
use Rattle.std.specs.Prelude.{◌≡◌, ℕ, ◌<◌, List, slice_get, Some}
use Rattle.std.specs.List.{AllByRecursion}
use Rattle.usb_base.specs.Limits.{frame_list_length}
use Rattle.hub_keys.specs.declared.key.Key.{Key}
use Rattle.bandwidth.specs.declared.placements.Placed.{Placed}
use Rattle.bandwidth.specs.Placements.{IsWant, first_in, allowed}
use Rattle.bandwidth.specs.Sums as budgets
use Rattle.law_translator.specs.Plans.{Fits}
use Rattle.claims_world.specs.Plans.{Plan}
use Rattle.law_translator.specs.hub_plans.HubPlans.{AreKeysApart}
use Rattle.claims_world.specs.HubPlans.{placed_below, plan_by, hub_plan, time_in}

pub record IsPlacedRight (y : Placed) : Type 0 where
  pub want : IsWant y.want
  pub place : ℕ
  pub at : slice_get (allowed y.want) place ≡ Some y.placement

abbrev pub PlacedFits : (Placed → Key) → List Placed → ℕ → ℕ → ℕ → Type 0
PlacedFits key placed hub port f =
    budgets.Fits placed → AllByRecursion IsPlacedRight placed → AreKeysApart key (placed_below hub port f placed)
    → Fits (hub_plan key hub port f placed)

abbrev pub HubPlansFit : Type 0
HubPlansFit = (key : Placed → Key) (placed : List Placed) (hub port f : ℕ)
    → hub < 128 → port < 16 → f < frame_list_length → PlacedFits key placed hub port f

abbrev pub IsKeptBy : Plan → Key → Placed → Type 0
IsKeptBy p k y = (p.first k ≡ first_in y.placement.smask) × (p.times k ≡ time_in y.want)

abbrev pub IsKeptIn : (Placed → Key) → List Placed → Placed → Type 0
IsKeptIn key placed y = IsKeptBy (plan_by key placed) (key y) y

abbrev pub PlacesAreKept : Type 0
PlacesAreKept = (key : Placed → Key) (placed : List Placed) → AreKeysApart key placed → AllByRecursion (IsKeptIn key placed) placed
