use Rattle.law_world.proofs.lemmas.memory.SampledMoments.{a_get}
use Rattle.law_world.proofs.memory.worked.a_get_of_the_keyboard_is_published.Goals as goal

pub returns-clause-to_lend : goal.returns-clause-to_lend
returns-clause-to_lend c = a_get.0

pub returns-clause-last : goal.returns-clause-last
returns-clause-last c = a_get.1

pub returns-clause-published : goal.returns-clause-published
returns-clause-published c = a_get.2

pub returns-clause-token : goal.returns-clause-token
returns-clause-token c = a_get.3

pub returns-clause-ring : goal.returns-clause-ring
returns-clause-ring c = a_get.4

pub returns-clause-element : goal.returns-clause-element
returns-clause-element c = a_get.5
