use Rattle.law_reports.proofs.lemmas.quiet.HeardSampled.{below_is_whole}
use Rattle.law_reports.proofs.quiet.a_loss_below_is_none_above.Goals as goal

pub returns : goal.returns
returns c = below_is_whole
