use Rattle.std.proofs.Common.{ℕ, arith, ap, length}
use Rattle.mem_runs.specs.Book.{holding, nothing}
use Rattle.drv_queues.proofs.runs.take_transfer.Goals as goal

pub returns-in-Err-clause-same : goal.returns-in-Err-clause-same
returns-in-Err-clause-same c =
    c.give_back.ensures.undone (holding c.args.book.now c.args.mem.now) (omega (arith, ap (length {A = ℕ}) c.taken-before.ensures))
    (c.take_parts.ensures.from (holding c.args.book.now c.args.mem.now) nothing)
