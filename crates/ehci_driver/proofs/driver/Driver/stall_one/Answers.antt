use Rattle.std.proofs.Common.{rules, arith, slice_get, ap, ◌∙◌, refl}
use Rattle.drv_table.specs.DriverContent.{DriverContent}
use Rattle.drv_table.specs.Harvesting.{behind_one}
use Rattle.ehci_driver.proofs.Behind.{behind_made, there_read}
use Rattle.ehci_driver.proofs.driver.Driver.stall_one.Goals as goal

pub returns-clause-driver : goal.returns-clause-driver
returns-clause-driver c =
    behind_made _ c.args.e c.args.name.now c.args.k c.index.result.now _ _ _ (there_read c.self.inside.transfers.items c.args.k c.index.result.now (omega (arith, c.if-k-len.false, c.len.ensures)) c.index.ensures) (search rules) (search rules) refl c.push_back_reserved.ensures.items
    ∙ ap (λ (d : DriverContent). behind_one d c.args.e c.args.name.now c.args.k (slice_get d.transfers c.args.k)) c.self.view_is
