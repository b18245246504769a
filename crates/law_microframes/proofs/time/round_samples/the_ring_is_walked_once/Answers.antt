use Rattle.law_microframes.proofs.lemmas.time.RoundSampled.{a_round}
use Rattle.law_microframes.proofs.time.round_samples.the_ring_is_walked_once.Goals as goal

pub returns-clause-outside : goal.returns-clause-outside
returns-clause-outside c = a_round.0

pub returns-clause-head : goal.returns-clause-head
returns-clause-head c = a_round.1

pub returns-clause-disk : goal.returns-clause-disk
returns-clause-disk c = a_round.2

pub returns-clause-passed : goal.returns-clause-passed
returns-clause-passed c = a_round.3

pub returns-clause-again : goal.returns-clause-again
returns-clause-again c = a_round.4
