use Rattle.law_microframes.proofs.lemmas.visits.AheadMoments.{began_is_mixed}
use Rattle.law_microframes.proofs.visits.goes_ahead.began_is_mixed.Goals as goal

pub returns : goal.returns
returns c = began_is_mixed
