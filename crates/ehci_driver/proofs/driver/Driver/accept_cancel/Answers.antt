use Rattle.std.proofs.Common.{slice_get, ap, ◌∙◌, arith, refl}
use Rattle.drv_table.specs.DriverContent.{DriverContent}
use Rattle.ehci_driver.proofs.Entered.{cancelled_rooms}
use Rattle.ehci_driver.proofs.Rosters.{written_rooms}
use Rattle.ehci_driver.proofs.Placed.{frames_cancelled}
use Rattle.ehci_driver.proofs.driver.Driver.accept_cancel.Goals as goal

pub invariant_of-self : goal.invariant_of-self
invariant_of-self c =
    let here = ap (λ (d : DriverContent). slice_get d.endpoints c.args.e) c.self.view_is ∙ c.requires.endpoint in (
      written_rooms _ _ _ _ c.write.ensures.items c.write.ensures.room
          (cancelled_rooms c.args.e c.args.endpoint.now _ c.self.invariant.0 (omega (arith, ap (λ (d : DriverContent). d.room.reports) c.self.view_is, c.requires.room)) here refl),
      frames_cancelled _ c.args.e _ c.args.endpoint.now _ c.self.invariant.1 c.write.ensures.items here refl,
    )
