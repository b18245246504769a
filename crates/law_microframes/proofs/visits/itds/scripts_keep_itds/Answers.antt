use Rattle.law_microframes.proofs.lemmas.visits.BelongItdMoments.{scripts_keep_itds}
use Rattle.law_microframes.proofs.visits.itds.scripts_keep_itds.Goals as goal

pub returns : goal.returns
returns c = scripts_keep_itds
