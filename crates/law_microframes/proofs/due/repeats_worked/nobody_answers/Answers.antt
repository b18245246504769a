use Rattle.law_microframes.proofs.lemmas.due.lemmas.repeats.Sampled.{nobody}
use Rattle.law_microframes.proofs.due.repeats_worked.nobody_answers.Goals as goal

pub returns-clause-none : goal.returns-clause-none
returns-clause-none c = nobody.0

pub returns-clause-again : goal.returns-clause-again
returns-clause-again c = nobody.1
