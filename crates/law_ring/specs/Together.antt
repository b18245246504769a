-- Structures of one owner that are lent together (EHCI 1.0, 4.10).
--     Item                   a structure with its name
--     put_all parts n is     the parts with these of the owner n
--     AreNew m after is      each of them stands in memory after the lend in blocks that weren't Lent before, and no two share a block
--     AreBeside n is         none of them has the name n, which is the queue head's
--     LendsLeaveRing         the law
use Rattle.std.specs.Prelude.{◌≡◌, ◌≢◌, ℕ, Bool, true, List, [], ◌∷◌}
use Rattle.std.specs.List.{AllByRecursion}
use Rattle.word_mem.specs.Memory.{Mem}
use Rattle.async_walk.specs.Rows.{WalkPlace}
use Rattle.law_structures.specs.lent_structures.Structures.{Structure, StructureSets, put, Has}
use Rattle.law_structures.specs.lent_structures.Changes.{Leaves, IsNew}
use Rattle.law_structures.specs.lent_structures.Sound.{IsMember}
use Rattle.law_ring.specs.Hand.{Hand}
use Rattle.claims_base.specs.Controller.{Base}
use Rattle.law_ring.specs.Ring.{IsRing}

pub record Item : Type 0 where
  pub name : ℕ
  pub structure : Structure

abbrev pub put_all : StructureSets → ℕ → List Item → StructureSets
put_all parts n [] = parts
put_all parts n (i ∷ is) = put (put_all parts n is) n i.name i.structure

abbrev pub ShareNoBlock : Item → Item → Type 0
ShareNoBlock i j = (b : ℕ) → Has i.name i.structure b → Has j.name j.structure b → ⊥

abbrev pub AreNew : Mem → Mem → List Item → Type 0
AreNew m after [] = Unit {0}
AreNew m after (i ∷ is) = IsNew m after i.name i.structure × AllByRecursion (ShareNoBlock i) is × AreNew m after is

abbrev pub AreBeside : ℕ → List Item → Type 0
AreBeside n is = AllByRecursion (λ i. i.name ≢ n) is

abbrev pub LendsLeaveRing : Type 0
LendsLeaveRing = (base : Base) (member : ℕ → Bool) (parts : StructureSets) (hand : Hand) (p : WalkPlace) (n : ℕ) (is : List Item) (after : Mem)
    → IsRing base member parts hand p → Leaves p.memory after → AreNew p.memory after is → AreBeside n is
    → (member n ≡ true → IsMember member n (put_all parts n is n)) → IsRing base member (put_all parts n is) hand (record p { memory = after })
