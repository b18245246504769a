use Rattle.std.proofs.Common.{ap, arith, ◌∙◌}
use Rattle.mem_runs.specs.Book.{holding, lend_taken}
use Rattle.drv_queues.proofs.Opened.{taken_with, lend_with, lowest_fits, lowest_blocks}
use Rattle.drv_queues.proofs.opening.lend_lowest.Goals as goal

pub returns-in-Some-clause-lent : goal.returns-in-Some-clause-lent
returns-in-Some-clause-lent c =
    λ r lowest.
    let h = holding c.args.book.now c.args.mem.now in
    let fits = lowest_fits c.args.mem.now.states c.args.n r lowest in
    let blocks = lowest_blocks c.args.mem.now.states c.args.n r lowest in
    c.lend_taken.ensures.lent
    ∙ (ap lend_taken (taken_with h (holding c.take.new.self c.take.new.mem) c.args.n r c.in-Some.ensures.taken.0 lowest)
    ∙ lend_with h r c.requires.none (omega (arith, c.requires.stands.sizes)) fits)
