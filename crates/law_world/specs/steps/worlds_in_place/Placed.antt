-- A world in which nothing of the driver is out of place (EHCI 1.0, 3, 4.6 and 4.8).
--     IsPlacedWorld w     everything of its driver is in place in its memory
use Rattle.law_driver.specs.in_place.InPlace.{IsInPlace}
use Rattle.bus_world.specs.World.{World}

abbrev pub IsPlacedWorld : World → Type 0
IsPlacedWorld w = IsInPlace w.memory w.driver
