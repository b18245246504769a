use Rattle.law_descriptors.proofs.Chained.{events_leave_chained}
use Rattle.law_descriptors.proofs.chained_laws.events_leave_chained.Goals as goal

pub returns : goal.returns
returns c = events_leave_chained
