-- Two memories of two blocks that differ in the first word of block 1.
--     words_with v            eight words of block 0, and this one of block 1
--     ElsewhereSame           they agree in all but block 1
--     ThereOther              .. and not in all but block 0
use Rattle.std.specs.Prelude.{ℕ, List, [], ◌∷◌}
use Rattle.word_mem.specs.Memory.{Mem}
use Rattle.claims_world.specs.Releases.{IsSameBut}

abbrev pub words_with : ℕ → List ℕ
words_with v = 0 ∷ 0 ∷ 0 ∷ 0 ∷ 0 ∷ 0 ∷ 0 ∷ 0 ∷ v ∷ []

abbrev pub having : Mem → ℕ → Mem
having m v = record m { words = words_with v }

abbrev pub ElsewhereSame : Type 0
ElsewhereSame = (m : Mem) (v u : ℕ) → IsSameBut 1 (having m v) (having m u)

abbrev pub ThereOther : Type 0
ThereOther = (m : Mem) → IsSameBut 0 (having m 7) (having m 9) → ⊥
