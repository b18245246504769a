use Rattle.std.proofs.Common.{slice_get, ap, ◌∙◌, refl}
use Rattle.drv_table.specs.DriverContent.{DriverContent}
use Rattle.ehci_driver.proofs.Left.{kept_rooms}
use Rattle.ehci_driver.proofs.Placed.{frames_endpoint}
use Rattle.ehci_driver.proofs.driver.Driver.open_again.Goals as goal

pub invariant_of-self : goal.invariant_of-self
invariant_of-self c =
    let here = ap (λ (d : DriverContent). slice_get d.endpoints c.args.e) c.self.view_is ∙ c.requires.endpoint in (
      kept_rooms _ _ c.args.e c.args.endpoint.now _ c.self.invariant.0 c.write.ensures.items c.write.ensures.room here refl refl refl,
      frames_endpoint _ c.args.e c.args.endpoint.now _ c.self.invariant.1 c.write.ensures.items here refl,
    )
