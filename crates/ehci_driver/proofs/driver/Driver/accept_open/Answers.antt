use Rattle.std.proofs.Common.{◌≤◌, ap, arith, refl}
use Rattle.drv_table.specs.DriverContent.{DriverContent}
use Rattle.ehci_driver.proofs.Entered.{opened_rooms}
use Rattle.ehci_driver.proofs.Placed.{frames_opened}
use Rattle.ehci_driver.proofs.driver.Driver.accept_open.Goals as goal

pub invariant_of-self : goal.invariant_of-self
invariant_of-self c =
    let some : 1 ≤ c.self.inside.room.endpoints = omega (arith, ap (λ (d : DriverContent). d.room.endpoints) c.self.view_is, c.requires.room) in (
      opened_rooms _ _ _ c.self.invariant.0 some c.push.ensures.items refl refl c.push.ensures.room,
      frames_opened _ _ c.self.invariant.1 some c.push.ensures.items,
    )
