use Rattle.law_microframes.proofs.lemmas.visits.NoneLeftChains.{chain_is_standing}
use Rattle.law_microframes.proofs.visits.coverage.chain_is_standing.Goals as goal

pub returns : goal.returns
returns c = chain_is_standing
