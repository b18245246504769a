use Rattle.std.proofs.Common.{◌≡◌, ◌<◌, ◌+◌, ◌-◌, length, ap, sym, ◌∙◌, arith}
use Rattle.drv_table.specs.DriverContent.{DriverContent}
use Rattle.drv_table.specs.Harvesting.{behind}
use Rattle.ehci_driver.proofs.Behind.{behind_more, behind_all}
use Rattle.ehci_driver.proofs.driver.Driver.stall_behind.Goals as goal

pub loop-k-preserved : goal.loop-k-preserved
loop-k-preserved c =
    let e = c.args.e in
    let name = c.args.name.now in
    let k = c.loop-k.k in
    let n = c.len-count.result in
    let below : k < n = omega (arith, c.loop-k-test.true) in
    record {
      leads =
          ap (λ (d : DriverContent). behind d e name (k + 1) (n - (k + 1))) c.stall_one.ensures.driver
          ∙ behind_more c.loop-k.self e name k n below
          ∙ c.loop-k.invariant.leads;
      count = c.stall_one.ensures.count ∙ c.loop-k.invariant.count;
      book = c.stall_one.ensures.book ∙ c.loop-k.invariant.book;
    }

pub returns-clause-driver : goal.returns-clause-driver
returns-clause-driver c =
    let e = c.args.e in
    let name = c.args.name.now in
    let n = c.len-count.result in
    let long : n ≡ length c.self.inside.transfers.items = omega (arith, c.len-count.ensures) in
    sym (behind_all c.loop-k.self e name c.loop-k.k n (omega (arith, c.loop-k-test.false)))
    ∙ c.loop-k.invariant.leads
    ∙ ap (λ m. behind c.args.self.now e name c.args.first (m - c.args.first)) (long ∙ ap (λ (d : DriverContent). length d.transfers) c.self.view_is)
