use Rattle.law_microframes.proofs.lemmas.due.Sampled.{none_is_lost, one_is_lost}
use Rattle.law_microframes.proofs.due.worked.a_packet_is_lost.Goals as goal

pub returns-clause-kept : goal.returns-clause-kept
returns-clause-kept c = none_is_lost

pub returns-clause-lost : goal.returns-clause-lost
returns-clause-lost c = one_is_lost
