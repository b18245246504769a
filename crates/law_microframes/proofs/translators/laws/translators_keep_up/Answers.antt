use Rattle.law_microframes.proofs.lemmas.translators.Promises.{keep_up, answer_in_time}
use Rattle.law_microframes.proofs.translators.laws.translators_keep_up.Goals as goal

pub returns-clause-work : goal.returns-clause-work
returns-clause-work c = keep_up

pub returns-clause-answers : goal.returns-clause-answers
returns-clause-answers c = answer_in_time
