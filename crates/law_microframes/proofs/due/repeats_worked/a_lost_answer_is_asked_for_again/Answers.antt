use Rattle.law_microframes.proofs.lemmas.due.lemmas.repeats.Sampled.{lost_once}
use Rattle.law_microframes.proofs.due.repeats_worked.a_lost_answer_is_asked_for_again.Goals as goal

pub returns-clause-before : goal.returns-clause-before
returns-clause-before c = lost_once.0

pub returns-clause-lost : goal.returns-clause-lost
returns-clause-lost c = lost_once.1

pub returns-clause-written : goal.returns-clause-written
returns-clause-written c = lost_once.2

pub returns-clause-again : goal.returns-clause-again
returns-clause-again c = lost_once.3
