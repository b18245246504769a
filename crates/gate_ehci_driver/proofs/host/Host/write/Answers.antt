use Rattle.gate_ehci_driver.proofs.Standing.{book_stands}
use Rattle.gate_ehci_driver.proofs.host.Host.write.Goals as goal

pub invariant_of-self : goal.invariant_of-self
invariant_of-self c = book_stands c.self.inside.driver.driver.book c.self.inside.mem c.hc_write.new.self c.self.invariant c.hc_write.ensures.only_lent
