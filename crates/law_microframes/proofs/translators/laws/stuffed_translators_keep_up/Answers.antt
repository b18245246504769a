use Rattle.law_microframes.proofs.lemmas.translators.Promises.{stuffed_keep_up, stuffed_answer_in_time}
use Rattle.law_microframes.proofs.translators.laws.stuffed_translators_keep_up.Goals as goal

pub returns-clause-work : goal.returns-clause-work
returns-clause-work c = stuffed_keep_up

pub returns-clause-answers : goal.returns-clause-answers
returns-clause-answers c = stuffed_answer_in_time
