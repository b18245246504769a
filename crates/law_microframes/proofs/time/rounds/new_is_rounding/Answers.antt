use Rattle.law_microframes.proofs.lemmas.time.RoundOpening.{new_is_rounding}
use Rattle.law_microframes.proofs.time.rounds.new_is_rounding.Goals as goal

pub returns : goal.returns
returns c = new_is_rounding
