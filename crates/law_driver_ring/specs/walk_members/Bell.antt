-- How far the doorbell of the ring is (EHCI 1.0, 4.8.2), told by the driver's content and the registers together.
--     KeepsBell d p new   it is so in the place `new`, if it was in p
use Rattle.drv_table.specs.DriverContent.{DriverContent}
use Rattle.async_walk.specs.Rows.{WalkPlace}
use Rattle.claims_driver.specs.Walk.{IsBellIn}

abbrev pub KeepsBell : DriverContent → WalkPlace → WalkPlace → Type 0
KeepsBell d p new = IsBellIn d p.registers → IsBellIn d new.registers
