-- Where a run begins, no hub has anything of any key.
use Rattle.std.proofs.Common.{◌≡◌, ℕ, zero, suc, ◌<◌, List, [], ◌∷◌, map, replicate, Some, slice_get, subst, sym, arith}
use Rattle.usb_base.specs.declared.packets.Ask.{Ask}
use Rattle.script_types.specs.declared.devices.HubText.{HubText}
use Rattle.hub_keys.specs.declared.key.Key.{Key}
use Rattle.hub_class.specs.HubContent as Hubs
use Rattle.multi_tt.specs.Translators.{opening}
use Rattle.law_translated.specs.Lift.{Way, Empty}
use Rattle.law_translated.specs.KeyHubs.{HaveNone, HasAt}
use Rattle.law_translated.proofs.TranslatorCalls.{reset_by_key}
use Rattle.law_below_hubs.specs.RightAsks.{AllRight}
use Rattle.law_below_hubs.specs.HubsKeys.{HubsHaveNone, HubsHave, AreRightHubs}
use Rattle.law_below_hubs.specs.Opening.{translators_of, OpensWithoutKeys, OpensRight}
use Rattle.law_below_hubs.proofs.RightAsks.{keeps_right}

none_open : (way : Way) (k : Key) (n : ℕ) → HaveNone way k (replicate n opening)
none_open way k zero = tt
none_open way k (suc n) = (reset_by_key way k, none_open way k n)

at_open : (way : Way) (k : Key) (place n : ℕ) → place < n → HasAt way k place (replicate n opening) Empty
at_open way k place zero less = absurd (omega arith)
at_open way k zero (suc n) less = (reset_by_key way k, none_open way k n)
at_open way k (suc place) (suc n) less = (reset_by_key way k, at_open way k place n (omega arith))

nones_open : (way : Way) (k : Key) (hs : List HubText) → HubsHaveNone way k (map Hubs.opening hs)
nones_open way k [] = tt
nones_open way k (h ∷ hs) = (none_open way k (translators_of h), nones_open way k hs)

hubs_open : (way : Way) (k : Key) (i place : ℕ) (hs : List HubText) (h : HubText) → slice_get hs i ≡ Some h → place < translators_of h
    → HubsHave way k i place (map Hubs.opening hs) Empty
hubs_open way k i place [] h there less = absurd cc
hubs_open way k zero place (x ∷ hs) h there less =
    let same : x ≡ h = cc in
    (at_open way k place (translators_of x) (subst (λ (y : HubText). place < translators_of y) (sym same) less), nones_open way k hs)
hubs_open way k (suc i) place (x ∷ hs) h there less = (none_open way k (translators_of x), hubs_open way k i place hs h there less)

pub opens_without_keys : OpensWithoutKeys
opens_without_keys s way k i place h there less = hubs_open way k i place s.hubs h there less

right_open : (right : Ask → Type 0) (n : ℕ) → AllRight right (replicate n opening)
right_open right zero = tt
right_open right (suc n) = ((keeps_right right).opens, right_open right n)

rights_open : (right : Ask → Type 0) (hs : List HubText) → AreRightHubs right (map Hubs.opening hs)
rights_open right [] = tt
rights_open right (h ∷ hs) = (right_open right (translators_of h), rights_open right hs)

pub opens_right : (right : Ask → Type 0) → OpensRight right
opens_right right s = rights_open right s.hubs
