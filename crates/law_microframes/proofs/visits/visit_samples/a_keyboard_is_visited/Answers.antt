use Rattle.law_microframes.proofs.lemmas.visits.VisitSampled.{a_visit}
use Rattle.law_microframes.proofs.visits.visit_samples.a_keyboard_is_visited.Goals as goal

pub returns-clause-begins : goal.returns-clause-begins
returns-clause-begins c = a_visit.0

pub returns-clause-reads : goal.returns-clause-reads
returns-clause-reads c = a_visit.1

pub returns-clause-passes : goal.returns-clause-passes
returns-clause-passes c = a_visit.2
