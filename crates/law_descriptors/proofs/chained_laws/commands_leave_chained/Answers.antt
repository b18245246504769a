use Rattle.law_descriptors.proofs.Chained.{commands_leave_chained}
use Rattle.law_descriptors.proofs.chained_laws.commands_leave_chained.Goals as goal

pub returns : goal.returns
returns c = commands_leave_chained
