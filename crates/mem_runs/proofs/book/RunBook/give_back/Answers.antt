use Rattle.std.proofs.Common.{sym, ap, subst, ◌∙◌, arith}
use Rattle.mem_runs.specs.Book.{holding, IsTakenFrom}
use Rattle.mem_runs.proofs.Standing.{drop_last, nothing_taken}
use Rattle.mem_runs.proofs.book.RunBook.give_back.Goals as goal

pub loop-first-preserved : goal.loop-first-preserved
loop-first-preserved c =
    record {
      stands = c.drop_taken.ensures.stands;
      from = λ before long taken.
          subst (λ g. IsTakenFrom before g) (sym c.drop_taken.ensures.dropped)
          (drop_last before (holding c.loop-first.self c.loop-first.mem) c.pop_above.new.self c.in-Some.first (c.loop-first.invariant.from before long taken) (omega (arith, long, c.in-Some.ensures.more)) c.in-Some.ensures.last c.pop_above.ensures.slots);
    }

pub returns-clause-undone : goal.returns-clause-undone
returns-clause-undone c =
    λ before long taken.
    let none = c.in_default.ensures.none in
    ap (λ k. holding k c.loop-first.mem) none.0
    ∙ nothing_taken before (holding c.loop-first.self c.loop-first.mem) (c.loop-first.invariant.from before long taken) (omega (arith, long, none.1))
