-- What holds of every text.
use Rattle.std.proofs.Common.{◌≡◌, ℕ, ◌<◌, ◌⊎◌, List, length, Some, None, Result, Ok, Err, refl, inl, inr}
use Rattle.std.specs.Result.{result_err}
use Rattle.std.proofs.lemmas.Bool.{lt-ltb}
use Rattle.script_types.specs.declared.scripts.Script.{Script}
use Rattle.script_forms.specs.declared.causes.TextWhy.{TextWhy}
use Rattle.script_forms.specs.declared.causes.TextWhy.TheVariants.{Long}
use Rattle.script_text.specs.Reading.{script_read}
use Rattle.script_text.specs.Faults.{Spells, first_fault}

pub spells_once : (text : List ℕ) (s t : Script) → Spells text s → Spells text t → s ≡ t
spells_once text s t h k = cc

either_of : (r : Result Script (ℕ × TextWhy)) → ((s : Script) × (r ≡ Ok s) × (result_err r ≡ None)) ⊎ ((fault : ℕ × TextWhy) × (result_err r ≡ Some fault) × ((s : Script) → r ≡ Ok s → ⊥))
either_of (Ok s) = inl (s, refl, refl)
either_of (Err fault) = inr (fault, refl, λ s e. cc)

pub either : (text : List ℕ) → ((s : Script) × Spells text s × (first_fault text ≡ None)) ⊎ ((fault : ℕ × TextWhy) × (first_fault text ≡ Some fault) × ((s : Script) → Spells text s → ⊥))
either text = either_of (script_read text)

pub too_long : (text : List ℕ) → 1048576 < length text → first_fault text ≡ Some (0, Long)
unfolding script_read
too_long text h = rw (lt-ltb 1048576 (length text) h) refl
