use Rattle.itd_sitd.proofs.SitdLaws.{sitd_accepts, sitd_reads_back, sitd_refuses}
use Rattle.itd_sitd.proofs.sitd.Sitd.read.Goals as goal

pub returns-clause-accepted : goal.returns-clause-accepted
returns-clause-accepted c = sitd_accepts c.args.w.now c.answer_to.result c.told-w c.fits-w c.answer_to.ensures

pub returns-clause-back : goal.returns-clause-back
returns-clause-back c = sitd_reads_back c.args.w.now c.answer_to.result c.answer_to.ensures

pub returns-clause-refused : goal.returns-clause-refused
returns-clause-refused c = sitd_refuses c.args.w.now c.answer_to.result c.answer_to.ensures
