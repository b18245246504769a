use Rattle.drv_queues.proofs.Noted.{noted}
use Rattle.drv_queues.proofs.notes.note_of.Goals as goal

pub returns-clause-note : goal.returns-clause-note
returns-clause-note c =
    noted c.args.stage.now c.args.next c.args.from c.run_count-count.result c.args.runs.now c.one_of.result c.one_of-2.result c.one_of-3.result c.one_of-4.result c.one_of-5.result
    c.run_count-count.ensures.count c.one_of.ensures c.one_of-2.ensures c.one_of-3.ensures c.one_of-4.ensures c.one_of-5.ensures
