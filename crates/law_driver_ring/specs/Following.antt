-- How far structures reach once a driver's content tells other runs (EHCI 1.0, 4.10): as where a command is accepted, whose runs aren't lent yet.
--     Follows v w          each transfer with a lent buffer was one before, and each run has its blocks still
--     ExtentsFollow        the law
use Rattle.std.specs.Prelude.{◌≡◌, ℕ, List, ◌∷◌}
use Rattle.claims_driver.specs.Owners.{SlotHas, EndpointRuns, TransferRuns, Views, IsPieceOf}
use Rattle.law_structures.specs.lent_structures.Structures.{StructureSets}
use Rattle.law_driver_ring.specs.Inventory.{sorts_of, IsLent, IsTransferIn, IsDriven}
use Rattle.law_driver_ring.specs.Extents.{AreInRuns}

pub record WasBuffered (v : Views) (t b c : ℕ) (cs : List ℕ) (y : TransferRuns) (x : EndpointRuns) : Type 0 where
  pub transfer : IsTransferIn v t y x
  pub piece : IsPieceOf v.note y.first y.qtds b
  pub first : (v.note b).buffer ≡ c ∷ cs

pub record Follows (v w : Views) : Type 0 where
  pub slots : (c k : ℕ) → SlotHas (v.slot c) k → SlotHas (w.slot c) k
  pub buffered : (t b c : ℕ) (cs : List ℕ) (y : TransferRuns) (x : EndpointRuns) → IsTransferIn w t y x → IsPieceOf w.note y.first y.qtds b → (w.note b).buffer ≡ c ∷ cs
      → IsLent (w.slot c) → WasBuffered v t b c cs y x

abbrev pub ExtentsFollow : Type 0
ExtentsFollow = (v w : Views) (parts : StructureSets) → Follows v w → IsDriven w (sorts_of parts) → AreInRuns v parts → AreInRuns w parts
