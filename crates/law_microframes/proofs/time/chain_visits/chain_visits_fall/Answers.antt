use Rattle.law_microframes.proofs.lemmas.time.ChainFalls.{chain_visits_fall}
use Rattle.law_microframes.proofs.time.chain_visits.chain_visits_fall.Goals as goal

pub returns : goal.returns
returns g c = chain_visits_fall g.W.Wire.transacts
