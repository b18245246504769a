use Rattle.law_world.proofs.lemmas.worked_streams.lemmas.small_receiver.Moments.{leaves}
use Rattle.law_world.proofs.worked_streams.small_receiver.worked.a_leave.Goals as goal

pub returns-clause-accepted : goal.returns-clause-accepted
returns-clause-accepted c = leaves.0

pub returns-clause-to_unlink : goal.returns-clause-to_unlink
returns-clause-to_unlink c = leaves.1

pub returns-clause-unlinked : goal.returns-clause-unlinked
returns-clause-unlinked c = leaves.2

pub returns-clause-waits : goal.returns-clause-waits
returns-clause-waits c = leaves.3

pub returns-clause-to_ring : goal.returns-clause-to_ring
returns-clause-to_ring c = leaves.4

pub returns-clause-rung : goal.returns-clause-rung
returns-clause-rung c = leaves.5
