use Rattle.std.proofs.Common.{slice_get, ap, ◌∙◌, refl}
use Rattle.drv_table.specs.DriverContent.{DriverContent}
use Rattle.ehci_driver.proofs.Lines.{moved_rooms}
use Rattle.ehci_driver.proofs.Placed.{frames_transfer}
use Rattle.ehci_driver.proofs.driver.Driver.move_on.Goals as goal

pub invariant_of-self : goal.invariant_of-self
invariant_of-self c = (
  moved_rooms c.args.t c.args.transfer.now _ c.self.invariant.0 (ap (λ (d : DriverContent). slice_get d.transfers c.args.t) (c.self.view_is ∙ c.set_moved.ensures) ∙ c.requires.there) refl refl,
  frames_transfer c.args.t c.args.transfer.now _ c.self.invariant.1 (ap (λ (d : DriverContent). slice_get d.transfers c.args.t) (c.self.view_is ∙ c.set_moved.ensures) ∙ c.requires.there) refl,
)
