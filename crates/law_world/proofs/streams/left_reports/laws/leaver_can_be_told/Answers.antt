use Rattle.law_world.proofs.lemmas.streams.lemmas.left_reports.Leaver.{leaver_can_be_told}
use Rattle.law_world.proofs.streams.left_reports.laws.leaver_can_be_told.Goals as goal

pub returns : goal.returns
returns c = leaver_can_be_told
