use Rattle.qh_qtd.proofs.QhLaws.{qh_accepts, qh_reads_back, qh_refuses}
use Rattle.qh_qtd.proofs.queue_head.Qh.read.Goals as goal

pub returns-clause-accepted : goal.returns-clause-accepted
returns-clause-accepted c = qh_accepts c.args.w.now c.answer_to.result c.told-w c.fits-w c.answer_to.ensures

pub returns-clause-back : goal.returns-clause-back
returns-clause-back c = qh_reads_back c.args.w.now c.answer_to.result c.answer_to.ensures

pub returns-clause-refused : goal.returns-clause-refused
returns-clause-refused c = qh_refuses c.args.w.now c.answer_to.result c.answer_to.ensures
