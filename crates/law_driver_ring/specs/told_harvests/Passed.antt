-- A harvest of the first published qTD that no short packet passed over (EHCI 1.0, 4.10.2): of those that were passed over no bytes are told.
--     IsNoneTold hand parts n passed     so it is of these
--     HarvestsFirst ..                   what the harvest of the qTD at e leaves: its bytes came first, and the others are out still
use Rattle.std.specs.Prelude.{◌≡◌, ℕ, List, [], ◌++◌}
use Rattle.law_structures.specs.lent_structures.Structures.{StructureSets}
use Rattle.law_ring.specs.Hand.{Hand}
use Rattle.law_ring.specs.Told.{Told}
use Rattle.law_ring.specs.Order.{IsAmong, Accounts}

abbrev pub IsNoneTold : Hand → StructureSets → ℕ → List ℕ → Type 0
IsNoneTold hand parts n passed = (p : ℕ) (x : List ℕ) → IsAmong p passed → Told hand parts n p x → x ≡ []

pub record HarvestsFirst (order : ℕ → ℕ) (place e : ℕ) (out : List ℕ) (hand : Hand) (parts : StructureSets) (n : ℕ) (xs : List ℕ) : Type 0 where
  pub bytes : List ℕ
  pub told : Told hand parts n e bytes
  pub others : List ℕ
  pub sum : xs ≡ bytes ++ others
  pub accounts : Accounts order place out hand parts n others
