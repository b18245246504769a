use Rattle.itd_sitd.proofs.ItdLaws.{itd_accepts, itd_reads_back, itd_refuses}
use Rattle.itd_sitd.proofs.itd.Itd.read.Goals as goal

pub returns-clause-accepted : goal.returns-clause-accepted
returns-clause-accepted c = itd_accepts c.args.w.now c.answer_to.result c.told-w c.fits-w c.answer_to.ensures

pub returns-clause-back : goal.returns-clause-back
returns-clause-back c = itd_reads_back c.args.w.now c.answer_to.result c.answer_to.ensures

pub returns-clause-refused : goal.returns-clause-refused
returns-clause-refused c = itd_refuses c.args.w.now c.answer_to.result c.answer_to.ensures
