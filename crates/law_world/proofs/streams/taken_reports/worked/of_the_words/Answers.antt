use Rattle.std.proofs.Common.{[], ◌∷◌, refl}
use Rattle.law_world.proofs.lemmas.streams.lemmas.taken_reports.Sampling.{nine_seven, some_none}
use Rattle.law_world.proofs.streams.taken_reports.worked.of_the_words.Goals as goal

pub returns-clause-begins : goal.returns-clause-begins
returns-clause-begins c = (9 ∷ [], refl)

pub returns-clause-other : goal.returns-clause-other
returns-clause-other c = λ k. nine_seven k.0 k.1

pub returns-clause-unsaid : goal.returns-clause-unsaid
returns-clause-unsaid c = some_none 7 []
