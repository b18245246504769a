use Rattle.std.proofs.Common.{ap, sym, ◌∙◌, replicate}
use Rattle.std.proofs.lemmas.Result.{err_from_is_err_and}
use Rattle.mem_runs.specs.Book.{holding}
use Rattle.drv_table.specs.Accepting.{take_runs}
use Rattle.drv_words.specs.Cuts.{stages_of}
use Rattle.drv_queues.proofs.Taking.{needs_missing}
use Rattle.drv_queues.proofs.runs.take_parts.Goals as goal

pub returns-in_err-take_each-clause-refused : goal.returns-in_err-take_each-clause-refused
returns-in_err-take_each-clause-refused c =
    let p = err_from_is_err_and c.from_residual.result c.from_residual.ensures.1 in
    let h = holding c.args.book.now c.args.mem.now in
    rw (p.1, p.2)
    (needs_missing h c.in_err-take_each.field-0.0 (stages_of c.args.cut.now) (ap (λ n. take_runs h (replicate n 1)) (sym c.count.ensures.count) ∙ c.in_err-take_each.ensures.refused))
