-- What a driver has reported of the streams of a ring's IN endpoints, beside what it still has to harvest (EHCI 1.0, 4.10; USB 2.0, 8.6).
--     IsReported order out hand parts n acc reported
--                               the bytes reported of the queue head at n, and then those moved of its published qTDs that aren't harvested yet, are
--                               those of the packets taken
--     AreReported ..            the same of each of these queue heads
use Rattle.std.specs.Prelude.{◌≡◌, ℕ, Bool, true, List, ◌++◌}
use Rattle.std.specs.List.{concat}
use Rattle.law_structures.specs.lent_structures.Structures.{StructureSets}
use Rattle.law_ring.specs.Hand.{Hand}
use Rattle.law_ring.specs.Order.{Accounts}

pub record IsReported (order : ℕ → ℕ) (out : List ℕ) (hand : Hand) (parts : StructureSets) (n : ℕ) (acc : List (List ℕ)) (reported : List ℕ) : Type 0 where
  pub place : ℕ
  pub told : List ℕ
  pub accounts : Accounts order place out hand parts n told
  pub sum : reported ++ told ≡ concat acc

abbrev pub AreReported : (ℕ → Bool) → (ℕ → ℕ → ℕ) → (ℕ → List ℕ) → Hand → StructureSets → (ℕ → List (List ℕ)) → (ℕ → List ℕ) → Type 0
AreReported streams order out hand parts acc reported = (n : ℕ) → streams n ≡ true → IsReported (order n) (out n) hand parts n (acc n) (reported n)
