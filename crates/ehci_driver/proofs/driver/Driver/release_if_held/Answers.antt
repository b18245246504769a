use Rattle.std.proofs.Common.{sym, ◌∙◌}
use Rattle.ehci_driver.specs.Turns.{parts}
use Rattle.ehci_driver.proofs.Cleared.{released_when, released_not}
use Rattle.ehci_driver.proofs.driver.Driver.release_if_held.Goals as goal

pub returns-then-still_has-clause-parts : goal.returns-then-still_has-clause-parts
returns-then-still_has-clause-parts c = λ r.
    let there = sym c.transfer_at.ensures ∙ c.in-Some.is in
    let has = sym c.still_has.ensures ∙ c.if-still_has.true in
    c.release_held.ensures.parts r ∙ sym (released_when (parts c.args.self.now r c.args.mem.now) c.args.e c.args.t c.in-Some.transfer
    there has)

pub returns-else-still_has-clause-parts : goal.returns-else-still_has-clause-parts
returns-else-still_has-clause-parts c = λ r.
    let there = sym c.transfer_at.ensures ∙ c.in-Some.is in
    let has = sym c.still_has.ensures ∙ c.if-still_has.false in
    sym (released_not (parts c.args.self.now r c.args.mem.now) c.args.e c.args.t c.in-Some.transfer there has)
