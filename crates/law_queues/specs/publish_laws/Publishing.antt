-- A transfer's first qTD is published by the eight stores of an unfinished command (EHCI 1.0, 3.5 and 4.10.2): the driver has no other event until they
-- are made, while the controller goes on.
--     IsBeingPublished d member parts n b t k   k of the stores of the qTD t are made, in block b, where the inactive qTD at the end of the queue of the
--                              queue head at n stood
--     published_parts parts n b t k             the structures with one store more
--     IsPublished d parts n b t                 all of them are made
--     StoreIsMade, NextIsReady, LastIsMade      the laws
use Rattle.std.specs.Prelude.{◌≡◌, ℕ, suc, ◌*◌, ◌<◌, Bool, true, Some, None}
use Rattle.qh_qtd.specs.declared.qtd.Qtd.{Qtd}
use Rattle.qh_qtd.specs.Qtd.{qtd_words, IsQtdInRange}
use Rattle.async_walk.specs.Walk.{Walk}
use Rattle.async_walk.specs.Rows.{place}
use Rattle.drv_table.specs.declared.content.Command.TheVariants as unfinished
use Rattle.drv_table.specs.DriverContent.{DriverContent}
use Rattle.drv_table.specs.Parts.{Parts as DriverParts}
use Rattle.drv_table.specs.Rows.{driver_row, after_driver_row}
use Rattle.law_driver.specs.in_place.InPlace.{IsSound}
use Rattle.law_structures.specs.lent_structures.Structures.{Element, StructureSets, put}
use Rattle.law_ring.specs.Hand.{Hand}
use Rattle.claims_base.specs.Controller.{Base}
use Rattle.law_driver_ring.specs.Driven.{DrivesRing}
use Rattle.law_driver_ring.specs.Published.{partly, IsPublishable}

pub record IsBeingPublished (d : DriverContent) (member : ℕ → Bool) (parts : StructureSets) (n b : ℕ) (t : Qtd) (k : ℕ) : Type 0 where
  pub command : d.command ≡ Some (unfinished.Publish b (qtd_words t))
  pub made : d.made ≡ suc k
  pub below : k < 8
  pub here : parts n (32 * b) ≡ Some (Element (partly t k))
  pub range : IsQtdInRange t
  pub may : member n ≡ true → IsPublishable (parts n) (32 * b) t

abbrev pub published_parts : StructureSets → ℕ → ℕ → Qtd → ℕ → StructureSets
published_parts parts n b t k = put parts n (32 * b) (Element (partly t (suc k)))

pub record IsPublished (d : DriverContent) (parts : StructureSets) (n b : ℕ) (t : Qtd) : Type 0 where
  pub command : d.command ≡ None
  pub made : d.made ≡ 0
  pub here : parts n (32 * b) ≡ Some (Element t)

abbrev pub StoreIsMade : Type 0
StoreIsMade = (base : Base) (member : ℕ → Bool) (parts : StructureSets) (hand : Hand) (w : Walk) (p : DriverParts) (n b : ℕ) (t : Qtd) (k : ℕ)
    → DrivesRing base member parts hand (place w p.registers p.memory) p.driver → IsSound p.memory p.driver → IsBeingPublished p.driver member parts n b t k
    → DrivesRing base member (published_parts parts n b t k) hand
    (place w (after_driver_row (driver_row p) p).registers (after_driver_row (driver_row p) p).memory) (after_driver_row (driver_row p) p).driver

-- before the last of them the next one is to be made
abbrev pub NextIsReady : Type 0
NextIsReady = (member : ℕ → Bool) (parts : StructureSets) (p : DriverParts) (n b : ℕ) (t : Qtd) (k : ℕ) → IsBeingPublished p.driver member parts n b t k → suc k < 8
    → IsBeingPublished (after_driver_row (driver_row p) p).driver member (published_parts parts n b t k) n b t (suc k)

-- after it the command is finished
abbrev pub LastIsMade : Type 0
LastIsMade = (member : ℕ → Bool) (parts : StructureSets) (p : DriverParts) (n b : ℕ) (t : Qtd) → IsBeingPublished p.driver member parts n b t 7
    → IsPublished (after_driver_row (driver_row p) p).driver (published_parts parts n b t 7) n b t
