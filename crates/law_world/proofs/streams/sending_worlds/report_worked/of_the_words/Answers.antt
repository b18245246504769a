use Rattle.std.proofs.Common.{[], ◌∷◌, refl}
use Rattle.law_world.proofs.lemmas.streams.lemmas.sending_worlds.ReportSampling.{nine_seven, two_one}
use Rattle.law_world.proofs.streams.sending_worlds.report_worked.of_the_words.Goals as goal

pub returns-clause-first : goal.returns-clause-first
returns-clause-first c = (9 ∷ [], refl)

pub returns-clause-all : goal.returns-clause-all
returns-clause-all c = ([], refl)

pub returns-clause-other : goal.returns-clause-other
returns-clause-other c = λ k. nine_seven k.0 k.1

pub returns-clause-more : goal.returns-clause-more
returns-clause-more c = λ k. two_one 7 9 7 k.0 k.1
