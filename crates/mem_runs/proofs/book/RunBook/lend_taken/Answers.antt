use Rattle.std.proofs.Common.{sym, ap, ◌∙◌}
use Rattle.mem_runs.specs.Book.{holding, lend_taken}
use Rattle.mem_runs.proofs.Standing.{lend_last, lent_none}
use Rattle.mem_runs.proofs.book.RunBook.lend_taken.Goals as goal

pub loop-first-preserved : goal.loop-first-preserved
loop-first-preserved c =
    record {
      stands = c.lend.ensures.stands;
      leads =
          ap lend_taken c.lend.ensures.lent
          ∙ lend_last (holding c.loop-first.self c.loop-first.mem) c.pop.new.self c.in-Some.first c.in-Some.ensures.last c.pop.ensures.slots
          ∙ c.loop-first.invariant.leads;
    }

pub returns-clause-lent : goal.returns-clause-lent
returns-clause-lent c =
    let none = c.in_default.ensures.none in
    ap (λ k. holding k c.loop-first.mem) none.0 ∙ sym (lent_none (holding c.loop-first.self c.loop-first.mem) none.1) ∙ c.loop-first.invariant.leads
