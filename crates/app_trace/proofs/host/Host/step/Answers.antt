use Rattle.app_trace.proofs.Standing.{book_stands}
use Rattle.app_trace.proofs.host.Host.step.Goals as goal

pub invariant_of-self : goal.invariant_of-self
invariant_of-self c = book_stands c.self.inside.driver.driver.book c.self.inside.mem c.step.new.mem c.self.invariant c.step.ensures.only_lent
