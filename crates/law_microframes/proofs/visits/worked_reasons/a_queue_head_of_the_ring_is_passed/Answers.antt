use Rattle.law_microframes.proofs.lemmas.visits.ReasonSampled.{used_up, halted, naks_left, uncounted}
use Rattle.law_microframes.proofs.visits.worked_reasons.a_queue_head_of_the_ring_is_passed.Goals as goal

pub returns-clause-used_up : goal.returns-clause-used_up
returns-clause-used_up c = used_up

pub returns-clause-halted : goal.returns-clause-halted
returns-clause-halted c = halted

pub returns-clause-left : goal.returns-clause-left
returns-clause-left c = naks_left

pub returns-clause-uncounted : goal.returns-clause-uncounted
returns-clause-uncounted c = uncounted
