use Rattle.qh_qtd.proofs.QtdLaws.{qtd_accepts, qtd_reads_back, qtd_refuses}
use Rattle.qh_qtd.proofs.qtd.Qtd.read.Goals as goal

pub returns-clause-accepted : goal.returns-clause-accepted
returns-clause-accepted c = qtd_accepts c.args.w.now c.answer_to.result c.told-w c.fits-w c.answer_to.ensures

pub returns-clause-back : goal.returns-clause-back
returns-clause-back c = qtd_reads_back c.args.w.now c.answer_to.result c.answer_to.ensures

pub returns-clause-refused : goal.returns-clause-refused
returns-clause-refused c = qtd_refuses c.args.w.now c.answer_to.result c.answer_to.ensures
