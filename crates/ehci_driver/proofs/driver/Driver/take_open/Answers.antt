use Rattle.ehci_driver.proofs.Offered.{opened_by, not_opened, both_are}
use Rattle.ehci_driver.proofs.driver.Driver.take_open.Goals as goal

pub returns-in-Ok-clause-accepted : goal.returns-in-Ok-clause-accepted
returns-in-Ok-clause-accepted c =
    opened_by _ c.args.self.now c.args.mem.now c.take_endpoint.new.mem c.args.desc.now c.take_endpoint.new.book c.in-Ok.queue c.in-Ok.dummy _ c.self.view_is
    c.in-Ok.ensures.taken c.in-Ok.ensures.queue c.in-Ok.ensures.dummy (both_are _ _ _ _ c.accept_open.ensures.driver c.accept_open.ensures.memory)

pub returns-in-Err-clause-refused : goal.returns-in-Err-clause-refused
returns-in-Err-clause-refused c = not_opened _ c.args.self.now c.args.mem.now c.args.desc.now c.in-Err.why c.self.view_is c.in-Err.ensures.refused
