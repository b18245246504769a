use Rattle.std.proofs.Common.{◌≡◌, ℕ, zero, suc, ◌+◌, ◌-◌, ◌<◌, false, refl, sym, subst, arith}
use Rattle.std.proofs.lemmas.Bool.{true≢false}
use Rattle.bandwidth.specs.Placements.{has}
use Rattle.law_microframes.proofs.translators.worked.a_last_complete.Goals as goal

each_later : (n : ℕ) → n < 3 → has 28 (n + 5) ≡ false
each_later zero few = refl
each_later (suc zero) few = refl
each_later (suc (suc zero)) few = refl
each_later (suc (suc (suc n))) few = absurd (omega (arith, few))

none_later : (v : ℕ) → 4 < v → v < 8 → has 28 v ≡ false
none_later v late low =
    let is : v ≡ v - 5 + 5 = omega (arith, late) in
    subst (λ (m : ℕ). has 28 m ≡ false) (sym is) (each_later (v - 5) (omega (arith, late, low)))

pub returns-clause-last : goal.returns-clause-last
returns-clause-last c = record { low = omega arith; here = refl; none = none_later }

pub returns-clause-later : goal.returns-clause-later
returns-clause-later c = λ last. true≢false (last.none 4 (omega arith) (omega arith))

pub returns-clause-none : goal.returns-clause-none
returns-clause-none c = λ last. true≢false (sym last.here)
