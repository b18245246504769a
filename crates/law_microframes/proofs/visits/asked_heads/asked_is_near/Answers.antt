use Rattle.law_microframes.proofs.lemmas.visits.AskedHeads.{asked_is_near}
use Rattle.law_microframes.proofs.visits.asked_heads.asked_is_near.Goals as goal

pub returns : goal.returns
returns c = asked_is_near
