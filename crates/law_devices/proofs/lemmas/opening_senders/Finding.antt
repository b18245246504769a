-- The first of some texts that passes.
use Rattle.std.proofs.Common.{◌≡◌, ℕ, zero, suc, ◌<◌, Bool, true, false, if◌then◌else◌, List, [], ◌∷◌, find, slice_get, Option, Some, None, ap, refl, ◌∙◌, arith}
use Rattle.std.specs.Option.{option_or}
use Rattle.std.specs.List.{flat_map}
use Rattle.std.proofs.lemmas.Option.{same_Some}
use Rattle.std.proofs.lemmas.List.Folds.{find-append}
use Rattle.script_types.specs.declared.devices.EpText.{EpText}
use Rattle.script_types.specs.declared.devices.DeviceText.{DeviceText}

pub first_found : (p : EpText → Bool) (xs : List EpText) (k : ℕ) (text : EpText) → slice_get xs k ≡ Some text → p text ≡ true → ((i : ℕ) (t : EpText) → i < k → slice_get xs i ≡ Some t → p t ≡ false) → find p xs ≡ Some text
first_found p [] zero text here is before = absurd cc
first_found p [] (suc k) text here is before = absurd cc
first_found p (x ∷ xs) zero text here is before = ap (λ (b : Bool). if b then Some x else find p xs) (ap p (same_Some x text here) ∙ is) ∙ here
first_found p (x ∷ xs) (suc k) text here is before =
    ap (λ (b : Bool). if b then Some x else find p xs) (before 0 x (omega arith) refl) ∙ first_found p xs k text here is (λ i t less there. before (suc i) t (omega (arith, less)) there)

pub none_found : (p : EpText → Bool) (xs : List EpText) → ((i : ℕ) (t : EpText) → slice_get xs i ≡ Some t → p t ≡ false) → find p xs ≡ None
none_found p [] none = refl
none_found p (x ∷ xs) none = ap (λ (b : Bool). if b then Some x else find p xs) (none 0 x refl) ∙ none_found p xs (λ i t there. none (suc i) t there)

-- among the texts of all devices
pub device_first : (p : EpText → Bool) (devices : List DeviceText) (n : ℕ) (d : DeviceText) (text : EpText) → slice_get devices n ≡ Some d → find p d.eps ≡ Some text
    → ((i : ℕ) (e : DeviceText) → i < n → slice_get devices i ≡ Some e → find p e.eps ≡ None) → find p (flat_map (λ device. device.eps) devices) ≡ Some text
device_first p [] zero d text here found before = absurd cc
device_first p [] (suc n) d text here found before = absurd cc
device_first p (e ∷ es) zero d text here found before =
    find-append p e.eps (flat_map (λ device. device.eps) es) ∙ ap (λ (o : Option EpText). option_or o (find p (flat_map (λ device. device.eps) es))) (ap (λ (z : DeviceText). find p z.eps) (same_Some e d here) ∙ found)
device_first p (e ∷ es) (suc n) d text here found before =
    find-append p e.eps (flat_map (λ device. device.eps) es) ∙ ap (λ (o : Option EpText). option_or o (find p (flat_map (λ device. device.eps) es))) (before 0 e (omega arith) refl)
    ∙ device_first p es n d text here found (λ i z less there. before (suc i) z (omega (arith, less)) there)
