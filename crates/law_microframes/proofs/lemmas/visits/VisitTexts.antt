-- What a script opens that a text spells has numbers and ways that fit.
use Rattle.std.proofs.Common.{ℕ, List, [], ◌∷◌}
use Rattle.std.specs.List.{AllByRecursion}
use Rattle.law_world.proofs.Common.{line_fits}
use Rattle.script_types.specs.declared.scripts.Line.{Line}
use Rattle.law_world.specs.memory.Scripts.{FitsLine, FittingLine}
use Rattle.law_world.specs.memory.PlacedLaws.{MixedLine}

pub lines_fit : (xs : List (ℕ × Line)) → AllByRecursion (λ x. FitsLine x.1) xs → AllByRecursion (λ x. FittingLine x.1) xs → AllByRecursion (λ x. MixedLine x.1) xs
lines_fit [] numbers kinds = tt
lines_fit (x ∷ xs) numbers kinds = (line_fits x.1 numbers.0 kinds.0, lines_fit xs numbers.1 kinds.1)
