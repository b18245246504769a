-- A driver and a controller over one memory (EHCI 1.0, 3, 4.6, 4.8 and 4.10).
--     IsShared base member parts hand c d
--                             everything of the driver's content d is in place in the memory of the controller's content c, which runs over a ring;
--                             memory is told by exactly the structures that the driver has lent
--     StaysShared base member new d
--                             the same of the controller's content after an event, with the structures and the copy in hand that there are then
--     after_driver c d        the controller's content once the driver had its next event
use Rattle.std.specs.Prelude.{ℕ, Bool}
use Rattle.hc_core.specs.Controller.{Content}
use Rattle.drv_table.specs.DriverContent.{DriverContent}
use Rattle.drv_table.specs.Parts.{Parts as DriverParts}
use Rattle.drv_table.specs.Rows.{driver_row, after_driver_row}
use Rattle.claims_driver.specs.Owners.{views_of}
use Rattle.law_structures.specs.lent_structures.Structures.{StructureSets}
use Rattle.law_ring.specs.Hand.{Hand}
use Rattle.claims_base.specs.Controller.{Base}
use Rattle.law_controller.specs.controlled_streams.Control.{IsControlled}
use Rattle.law_driver_ring.specs.Inventory.{sorts_of, IsDriven}
use Rattle.law_driver_ring.specs.Driven.{IsOperating}
use Rattle.law_driver.specs.in_place.InPlace.{IsInPlace}

pub record IsShared (base : Base) (member : ℕ → Bool) (parts : StructureSets) (hand : Hand) (c : Content) (d : DriverContent) : Type 0 where
  pub operating : IsOperating base
  pub place : IsInPlace c.memory d
  pub controlled : IsControlled base member parts hand c
  pub driven : IsDriven (views_of d) (sorts_of parts)

pub record StaysShared (base : Base) (member : ℕ → Bool) (new : Content) (d : DriverContent) : Type 0 where
  pub now : StructureSets
  pub later : Hand
  pub shared : IsShared base member now later new d

-- ---- the driver's next event

abbrev pub parts_of : Content → DriverContent → DriverParts
parts_of c d = record { driver = d; registers = c.registers; memory = c.memory }

abbrev pub next_parts : Content → DriverContent → DriverParts
next_parts c d = after_driver_row (driver_row (parts_of c d)) (parts_of c d)

abbrev pub after_driver : Content → DriverContent → Content
after_driver c d = record c { registers = (next_parts c d).registers; memory = (next_parts c d).memory }
