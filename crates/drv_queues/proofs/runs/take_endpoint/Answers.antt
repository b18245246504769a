use Rattle.std.proofs.Common.{ℕ, arith, ap, length}
use Rattle.mem_runs.specs.Book.{holding, nothing}
use Rattle.drv_queues.proofs.runs.take_endpoint.Goals as goal

pub returns-in_default-take-clause-same : goal.returns-in_default-take-clause-same
returns-in_default-take-clause-same c =
    c.give_back.ensures.undone (holding c.args.book.now c.args.mem.now) (omega (arith, ap (length {A = ℕ}) c.taken-keep.ensures))
    (c.take-2.ensures.from (holding c.args.book.now c.args.mem.now) (c.take.ensures.from (holding c.args.book.now c.args.mem.now) nothing))
