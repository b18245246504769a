use Rattle.law_microframes.proofs.lemmas.time.RoundSampled.{its_rounds}
use Rattle.law_microframes.proofs.time.round_samples.its_rounds.Goals as goal

pub returns : goal.returns
returns c = its_rounds
