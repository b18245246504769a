use Rattle.law_microframes.proofs.lemmas.time.CountVisits.{texts_visit_few}
use Rattle.law_microframes.proofs.lemmas.time.CountRounds.{texts_round_few}
use Rattle.law_microframes.proofs.time.counts.visits_are_few.Goals as goal

pub returns : goal.returns
returns c = record { frames = texts_visit_few; ring = texts_round_few }
