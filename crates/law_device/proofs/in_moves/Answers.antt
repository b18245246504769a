use Rattle.law_device.proofs.Senders.{in_moves, in_stays}
use Rattle.law_device.proofs.in_moves.Goals as goal

pub returns-clause-taken : goal.returns-clause-taken
returns-clause-taken c = in_moves

pub returns-clause-other : goal.returns-clause-other
returns-clause-other c = in_stays
