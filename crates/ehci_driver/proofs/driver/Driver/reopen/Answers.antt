use Rattle.std.proofs.Common.{ap, sym, ◌∙◌}
use Rattle.drv_table.specs.DriverContent.{DriverContent}
use Rattle.drv_table.specs.Parts.{Parts}
use Rattle.drv_jobs.specs.Clearing.{opened_again, reopened}
use Rattle.ehci_driver.specs.Turns.{parts}
use Rattle.ehci_driver.proofs.driver.Driver.reopen.Goals as goal

pub returns-clause-parts : goal.returns-clause-parts
returns-clause-parts c = λ r.
    let x = c.in-Some.endpoint in
    let there = sym c.endpoint_at.ensures.endpoint ∙ c.in-Some.is in
    ap (λ (d : DriverContent). parts d r c.give_back.new.mem) c.open_again.ensures.driver
    ∙ ap (λ (p : Parts). record p { driver = opened_again p.driver c.args.e x }) (c.give_back.ensures.parts r)
    ∙ ap (λ o. reopened (parts c.args.self.now r c.args.mem.now) c.args.e o) (sym there)
