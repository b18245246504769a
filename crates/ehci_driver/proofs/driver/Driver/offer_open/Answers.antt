use Rattle.std.proofs.Common.{Err}
use Rattle.ehci_driver.proofs.Offered.{open_again}
use Rattle.ehci_driver.proofs.driver.Driver.offer_open.Goals as goal

pub returns-in-Some-clause-refused : goal.returns-in-Some-clause-refused
returns-in-Some-clause-refused c =
    open_again c.args.self.now c.args.mem.now c.args.desc.now c.in-Some.endpoint (Err c.not_again.result) c.in-Some.ensures.endpoint (c.not_again.ensures c.args.self.now c.args.mem.now c.args.desc.now)
