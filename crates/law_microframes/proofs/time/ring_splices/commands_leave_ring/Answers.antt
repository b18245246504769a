use Rattle.law_microframes.proofs.lemmas.time.CommandRounds.{commands_leave_ring}
use Rattle.law_microframes.proofs.time.ring_splices.commands_leave_ring.Goals as goal

pub returns : goal.returns
returns c = commands_leave_ring
