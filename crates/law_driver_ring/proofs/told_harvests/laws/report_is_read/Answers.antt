use Rattle.law_driver_ring.proofs.lemmas.told_harvests.Reading.{report_read}
use Rattle.law_driver_ring.proofs.told_harvests.laws.report_is_read.Goals as goal

pub returns : goal.returns
returns c = report_read
