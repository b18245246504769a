use Rattle.law_structures.proofs.lemmas.lent_structures.Altering.{a_queue_head_alters_nothing}
use Rattle.law_structures.proofs.lent_structures.queue_laws.a_queue_head_alters_nothing.Goals as goal

pub returns : goal.returns
returns c = a_queue_head_alters_nothing
