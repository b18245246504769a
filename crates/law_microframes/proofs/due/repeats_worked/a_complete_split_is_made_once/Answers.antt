use Rattle.law_microframes.proofs.lemmas.due.lemmas.repeats.Sampled.{made_once}
use Rattle.law_microframes.proofs.due.repeats_worked.a_complete_split_is_made_once.Goals as goal

pub returns-clause-none : goal.returns-clause-none
returns-clause-none c = made_once.0

pub returns-clause-once : goal.returns-clause-once
returns-clause-once c = made_once.1
