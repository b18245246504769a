-- An image that is read of bytes with no fault keeps its ranges and alignments.
use Rattle.std.proofs.Common.{◌≡◌, ℕ, ◌+◌, ◌/◌, ◌%◌, ◌≤◌, ◌<◌, Bool, true, false, cond, List, [], ◌∷◌, length, drop, Option, Some, None, refl, sym, subst, arith}
use Rattle.std.proofs.lemmas.Bool.{and_parts, eqb-true, leb-true, ltb-true}
use Rattle.std.proofs.lemmas.List.{length-drop}
use Rattle.image_codec.specs.declared.image.Refusal.{Refusal}
use Rattle.image_codec.specs.Image.{Check, field_at, fields_of, first_refusal}
use Rattle.image_show.specs.ImageAt.{behind, checks_at, second_image, IsAlignedAt}

passed_test : (b : Bool) (r : Refusal) (rest : Option Refusal) → cond b rest (Some r) ≡ None → (b ≡ true) × (rest ≡ None)
passed_test true r rest h = (refl, h)
passed_test false r rest h = cc

abbrev AreAllPassed : List Check → Type 0
AreAllPassed [] = Unit {0}
AreAllPassed (c ∷ cs) = (c.passes ≡ true) × AreAllPassed cs

all_passed : (cs : List Check) → first_refusal cs ≡ None → AreAllPassed cs
all_passed [] h = tt
all_passed (c ∷ cs) h =
    let test = passed_test c.passes c.refusal (first_refusal cs) h in
    (test.0, all_passed cs test.1)

length-fields_of : (bytes : List ℕ) → length (fields_of bytes) ≡ length bytes / 4
length-fields_of [] = refl
length-fields_of (a ∷ []) = refl
length-fields_of (a ∷ b ∷ []) = refl
length-fields_of (a ∷ b ∷ c ∷ []) = refl
length-fields_of (a ∷ b ∷ c ∷ d ∷ bytes) = omega (arith, length-fields_of bytes)

pub aligned : (bytes : List ℕ) → first_refusal (checks_at bytes) ≡ None → IsAlignedAt (second_image bytes)
aligned bytes h =
    let tests = all_passed (checks_at bytes) h in
    let base = and_parts _ _ tests.1.1.1.1.1.1.0 in
    let four = and_parts _ _ tests.1.1.1.1.1.1.1.0 in
    let most = and_parts _ _ four.1 in
    let least = and_parts _ _ most.0 in
    let count = length-fields_of (drop 24 bytes) in
    let cut = length-drop 24 bytes in
    let words : length (fields_of (drop 24 bytes)) ≡ behind bytes / 4 = omega (arith, count, cut) in
    let ends : field_at bytes 20 + behind bytes < 4294967296 = ltb-true _ _ base.1 in
    record {
      frindex = leb-true _ _ tests.1.1.1.0;
      list_base = eqb-true _ _ tests.1.1.1.1.0;
      async_at = eqb-true _ _ tests.1.1.1.1.1.0;
      base = eqb-true _ _ base.0;
      whole = subst (λ (n : ℕ). n % 1024 ≡ 0) (sym words) (eqb-true _ _ least.0);
      least = subst (λ (n : ℕ). 1024 ≤ n) (sym words) (leb-true _ _ least.1);
      most = subst (λ (n : ℕ). n ≤ 262144) (sym words) (leb-true _ _ most.1);
      ends = omega (arith, words, ends);
    }
