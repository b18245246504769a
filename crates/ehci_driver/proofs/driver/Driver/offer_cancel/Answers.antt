use Rattle.ehci_driver.proofs.Offered.{cancel_again, cancelled_now}
use Rattle.ehci_driver.proofs.driver.Driver.offer_cancel.Goals as goal

pub returns-then-endpoint-clause-refused : goal.returns-then-endpoint-clause-refused
returns-then-endpoint-clause-refused c =
    λ m. cancel_again c.args.self.now m c.args.name.now c.in-Some.e c.in-Some.endpoint c.in-Some.ensures.number c.in-Some.ensures.endpoint c.if-endpoint.true

pub returns-clause-accepted : goal.returns-clause-accepted
returns-clause-accepted c =
    λ m.
    cancelled_now c.args.self.now c.cancel_endpoint.new.self m c.args.name.now c.in-Some.e c.in-Some.endpoint c.in-Some.ensures.number c.in-Some.ensures.endpoint c.if-endpoint.false
    c.cancel_endpoint.ensures.driver

pub returns-clause-book : goal.returns-clause-book
returns-clause-book c = c.cancel_endpoint.ensures.book
