use Rattle.std.proofs.Common.{sym, ◌∙◌}
use Rattle.std.proofs.lemmas.Result.{err_from_is_err_and}
use Rattle.mem_runs.specs.Book.{holding}
use Rattle.drv_words.specs.Cuts.{stages_of}
use Rattle.drv_queues.proofs.Taking.{missing_buffer}
use Rattle.drv_queues.proofs.runs.take_buffers.Goals as goal

pub returns-in_err-take_buffer-clause-refused : goal.returns-in_err-take_buffer-clause-refused
returns-in_err-take_buffer-clause-refused c =
    let p = err_from_is_err_and c.from_residual.result c.from_residual.ensures.1 in
    rw (p.1, p.2)
    (sym c.loop-k.invariant.leads
    ∙ missing_buffer (holding c.loop-k.book c.loop-k.mem) c.in_err-take_buffer.field-0.0 (stages_of c.args.cut.now) c.loop-k.k c.stage.result c.stage.ensures.stage c.in_err-take_buffer.ensures.refused)
