use Rattle.std.proofs.Common.{◌∙◌, ap, length}
use Rattle.drv_table.specs.Words.{buffer_needs}
use Rattle.drv_iso.proofs.Noting.{noted}
use Rattle.drv_iso.proofs.writing.note_of_runs.Goals as goal

pub returns : goal.returns
returns c =
    noted c.args.slots.now c.args.from c.run_count-count.result c.args.runs.now c.one_of.result c.one_of-2.result c.one_of-3.result c.one_of-4.result c.one_of-5.result c.one_of-6.result
    (c.run_count-count.ensures.count ∙ ap (λ n. length (buffer_needs n)) c.total_bytes.ensures.total)
    c.one_of.ensures c.one_of-2.ensures c.one_of-3.ensures c.one_of-4.ensures c.one_of-5.ensures c.one_of-6.ensures
