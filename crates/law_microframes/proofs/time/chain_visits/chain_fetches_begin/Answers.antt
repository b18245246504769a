use Rattle.law_microframes.proofs.lemmas.time.ChainFalls.{chain_fetches_begin}
use Rattle.law_microframes.proofs.time.chain_visits.chain_fetches_begin.Goals as goal

pub returns : goal.returns
returns g c = chain_fetches_begin g.W.Wire.transacts
