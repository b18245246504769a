-- A ring under the walk whose structures are those that a driver has lent (EHCI 1.0, 4.6, 4.8 and 4.10).
--     IsOperating base            the registers as a driver leaves them: the controller runs, and both schedules are on
--     DrivesRing base member parts hand p d
--                                 the place p of the walk is over a ring, and the driver's content d tells which structures it has
--     IsQuiet row                 a row of the driver that stores no word
use Rattle.std.specs.Prelude.{◌≡◌, ℕ, Bool, true, false}
use Rattle.async_walk.specs.Rows.{WalkPlace}
use Rattle.drv_table.specs.declared.rows.DriverRow.{DriverRow}
use Rattle.drv_table.specs.declared.rows.DriverRow.TheVariants as rows
use Rattle.drv_table.specs.DriverContent.{DriverContent}
use Rattle.claims_driver.specs.Owners.{views_of}
use Rattle.law_structures.specs.lent_structures.Structures.{StructureSets}
use Rattle.law_ring.specs.Hand.{Hand}
use Rattle.claims_base.specs.Controller.{Base}
use Rattle.law_ring.specs.Ring.{IsRing}
use Rattle.law_driver_ring.specs.Inventory.{sorts_of, IsDriven}

pub record IsOperating (base : Base) : Type 0 where
  pub run : base.run ≡ true
  pub async_enable : base.async_enable ≡ true
  pub periodic_enable : base.periodic_enable ≡ true

pub record DrivesRing (base : Base) (member : ℕ → Bool) (parts : StructureSets) (hand : Hand) (p : WalkPlace) (d : DriverContent) : Type 0 where
  pub ring : IsRing base member parts hand p
  pub driven : IsDriven (views_of d) (sorts_of parts)

abbrev pub is_quiet : DriverRow → Bool
is_quiet rows.ClearAdvance = true
is_quiet rows.RingBell = true
is_quiet (rows.ReadStatus heard) = true
is_quiet (rows.ReadFrame n) = true
is_quiet (rows.Harvest e t found) = true
is_quiet rows.Rest = true
is_quiet _ = false
