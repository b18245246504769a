use Rattle.std.proofs.Common.{refl}
use Rattle.std.proofs.lemmas.Bool.{false≢true}
use Rattle.law_microframes.proofs.worked_visits.again.other_words_are_asked_again.Goals as goal

pub returns-clause-said : goal.returns-clause-said
returns-clause-said c = refl

pub returns-clause-silence : goal.returns-clause-silence
returns-clause-silence c = refl

pub returns-clause-out : goal.returns-clause-out
returns-clause-out c = refl

pub returns-clause-never : goal.returns-clause-never
returns-clause-never c = λ is. false≢true is
