use Rattle.law_microframes.proofs.lemmas.visits.AheadMoments.{scripts_go_on_to_old}
use Rattle.law_microframes.proofs.visits.goes_ahead.scripts_go_on_to_old.Goals as goal

pub returns : goal.returns
returns c = scripts_go_on_to_old
