-- The devices of a script that a text spells have endpoints of their own.
use Rattle.std.proofs.Common.{◌≡◌, ℕ, zero, suc, false, List, [], ◌∷◌, map, Some, refl, sym, ap, subst, ◌∙◌}
use Rattle.std.specs.Prelude.{◌==◌, slice_get}
use Rattle.std.specs.List.{AllByRecursion}
use Rattle.std.proofs.lemmas.Bool.{eq-eqb, true≢false}
use Rattle.std.proofs.lemmas.Option.{same_Some}
use Rattle.law_common.proofs.Lists.{all_more}
use Rattle.script_types.specs.declared.devices.DeviceText.{DeviceText}
use Rattle.script_types.specs.declared.devices.EpText.{EpText}
use Rattle.script_types.specs.declared.scripts.Script.{Script}
use Rattle.script_world.specs.Draft.{Draft, Placed, device_text, script_of}
use Rattle.script_text.specs.Faults.{Spells}
use Rattle.law_devices.specs.opening_senders.Own.{HasOwnDevices}
use Rattle.law_devices.proofs.Drafts.{IsApart, AreApart, addresses, IsEpOf, HasOwn, IsDeclaredDraft}
use Rattle.law_devices.proofs.Texts.{spelled_kept}
use Rattle.law_devices.proofs.Senders.{empty_declared, second_declared, line_declares}

abbrev HasItsAddress : DeviceText → Type 0
HasItsAddress d = AllByRecursion (λ (text : EpText). text.desc.name.addr ≡ d.addr) d.eps

own_at : (names : _) (ds : List Placed) (i : ℕ) (d : DeviceText) → AllByRecursion (HasOwn names) ds → slice_get (map device_text ds) i ≡ Some d → HasItsAddress d
own_at names [] i d h e = cc
own_at names (x ∷ ds) zero d h e =
    subst HasItsAddress (same_Some (device_text x) d e) (all_more (IsEpOf names x.addr x.hub) (λ text. text.desc.name.addr ≡ x.addr) x.eps (λ text k. k.address) h.0)
own_at names (x ∷ ds) (suc i) d h e = own_at names ds i d h.1 e

other_at : (a : ℕ) (ds : List Placed) (i : ℕ) (d : DeviceText) → IsApart a (addresses ds) → slice_get (map device_text ds) i ≡ Some d → (a == d.addr) ≡ false
other_at a [] i d h e = cc
other_at a (x ∷ ds) zero d h e = subst (λ (z : DeviceText). (a == z.addr) ≡ false) (same_Some (device_text x) d e) h.0
other_at a (x ∷ ds) (suc i) d h e = other_at a ds i d h.1 e

-- the first one has another address than one behind it
not_first : (x : Placed) (ds : List Placed) (j : ℕ) (d e : DeviceText) → IsApart x.addr (addresses ds) → Some (device_text x) ≡ Some d → slice_get (map device_text ds) j ≡ Some e → d.addr ≡ e.addr → ⊥
not_first x ds j d e h first there same =
    let here : x.addr ≡ e.addr = ap (λ (z : DeviceText). z.addr) (same_Some (device_text x) d first) ∙ same in
    true≢false (sym (eq-eqb x.addr e.addr here) ∙ other_at x.addr ds j e h there)

apart_at : (ds : List Placed) (i j : ℕ) (d e : DeviceText) → AreApart (addresses ds) → slice_get (map device_text ds) i ≡ Some d → slice_get (map device_text ds) j ≡ Some e → d.addr ≡ e.addr → i ≡ j
apart_at [] i j d e h there here same = cc
apart_at (x ∷ ds) zero zero d e h there here same = refl
apart_at (x ∷ ds) zero (suc j) d e h there here same = absurd (not_first x ds j d e h.0 there here same)
apart_at (x ∷ ds) (suc i) zero d e h there here same = absurd (not_first x ds i e d h.0 here there (sym same))
apart_at (x ∷ ds) (suc i) (suc j) d e h there here same = ap suc (apart_at ds i j d e h.1 there here same)

draft_owns : (w : Draft) → IsDeclaredDraft w → HasOwnDevices (script_of w)
draft_owns w h = record {
  own = λ i d e. own_at w.endpoints w.devices i d h.own e;
  apart = λ i j d e there here same. apart_at w.devices i j d e h.apart there here same;
}

pub devices_have_addresses_of_their_own : (text : List ℕ) (s : Script) → Spells text s → HasOwnDevices s
devices_have_addresses_of_their_own text s e =
    let k = spelled_kept IsDeclaredDraft empty_declared second_declared line_declares text s e in
    subst HasOwnDevices k.is (draft_owns k.draft k.holds)
