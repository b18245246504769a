use Rattle.law_queues.proofs.lemmas.told_endpoints.Sampled.{none_told, one_held, then_ended}
use Rattle.law_queues.proofs.told_endpoints.worked.held_and_told.Goals as goal

pub returns-clause-none : goal.returns-clause-none
returns-clause-none c = none_told

pub returns-clause-held : goal.returns-clause-held
returns-clause-held c = one_held

pub returns-clause-ended : goal.returns-clause-ended
returns-clause-ended c = then_ended
