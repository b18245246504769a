-- In which blocks two memories agree.
use Rattle.std.proofs.Common.{◌≡◌, ◌≢◌, ℕ, zero, suc, ◌/◌, refl, arith}
use Rattle.std.specs.Prelude.{slice_index}
use Rattle.worked_claims.specs.GivenBack.{words_with, ElsewhereSame, ThereOther}

same_off : (v u i : ℕ) → i ≢ 8 → slice_index (words_with u) i ≡ slice_index (words_with v) i
same_off v u zero off = refl
same_off v u (suc zero) off = refl
same_off v u (suc (suc zero)) off = refl
same_off v u (suc (suc (suc zero))) off = refl
same_off v u (suc (suc (suc (suc zero)))) off = refl
same_off v u (suc (suc (suc (suc (suc zero))))) off = refl
same_off v u (suc (suc (suc (suc (suc (suc zero)))))) off = refl
same_off v u (suc (suc (suc (suc (suc (suc (suc zero))))))) off = refl
same_off v u (suc (suc (suc (suc (suc (suc (suc (suc zero)))))))) off = absurd (off refl)
same_off v u (suc (suc (suc (suc (suc (suc (suc (suc (suc i))))))))) off = refl

pub elsewhere_same : ElsewhereSame
elsewhere_same m v u = record {
  states = refl;
  size = refl;
  refusals = refl;
  words = λ at off. same_off v u (at / 4) (λ is. off (omega (arith, is)));
}

pub there_other : ThereOther
there_other m k = cc (k.words 32 (omega arith))
