use Rattle.law_microframes.proofs.lemmas.time.RoundControlling.{controller_keeps_rounds}
use Rattle.law_microframes.proofs.time.rounds.controller_keeps_rounds.Goals as goal

pub returns : goal.returns
returns c = controller_keeps_rounds
