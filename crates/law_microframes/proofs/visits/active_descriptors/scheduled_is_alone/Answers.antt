use Rattle.law_microframes.proofs.lemmas.visits.ActiveStands.{scheduled_is_alone}
use Rattle.law_microframes.proofs.visits.active_descriptors.scheduled_is_alone.Goals as goal

pub returns : goal.returns
returns c = scheduled_is_alone
