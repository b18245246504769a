use Rattle.law_microframes.proofs.lemmas.visits.ActiveStands.{queue_is_not_active}
use Rattle.law_microframes.proofs.visits.active_descriptors.queue_is_not_active.Goals as goal

pub returns : goal.returns
returns c = queue_is_not_active
