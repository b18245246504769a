-- The lines of a script that were taken at a moment of its run: the lines before those that are left.
--     NumbersRise s              the numbers of its lines rise
--     IsPart x                   the order is part of a line that is no command
--     AreLeft orders left        the orders are those of these lines, behind at most one part of the line before them
--     AreTaken s p taken left    at this place of a run of the script these lines were taken, and these are left
use Rattle.std.specs.Prelude.{◌≡◌, ℕ, suc, ◌≤◌, ◌⊎◌, List, [], ◌∷◌, ◌++◌}
use Rattle.script_types.specs.declared.scripts.Line.{Line}
use Rattle.script_types.specs.declared.scripts.Script.{Script}
use Rattle.bus_world.specs.Orders.{Left, Command, OrderedWorld, orders_of}

abbrev pub RiseFrom : ℕ → List (ℕ × Line) → Type 0
RiseFrom n [] = Unit {0}
RiseFrom n (x ∷ xs) = (n ≤ x.0) × RiseFrom (suc x.0) xs

abbrev pub NumbersRise : Script → Type 0
NumbersRise s = RiseFrom 0 s.lines

abbrev pub IsPart : Left → Type 0
IsPart (Command n cmd) = ⊥
IsPart _ = Unit {0}

abbrev pub AreLeft : List Left → List (ℕ × Line) → Type 0
AreLeft orders left = (orders ≡ orders_of left) ⊎ ((x : Left) × IsPart x × (orders ≡ x ∷ orders_of left))

pub record AreTaken (s : Script) (p : OrderedWorld) (taken left : List (ℕ × Line)) : Type 0 where
  pub lines : s.lines ≡ taken ++ left
  pub orders : AreLeft p.orders left
