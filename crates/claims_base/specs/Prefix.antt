-- When a list begins another.
use Rattle.std.specs.Prelude.{◌≡◌, List, ◌++◌}

-- a, followed by some list, is b
abbrev pub IsPrefix : {A : Type 0} → List A → List A → Type 0
IsPrefix {A = A} a b = (rest : List A) × (a ++ rest ≡ b)
