use Rattle.std.proofs.Common.{refl}
use Rattle.law_driver_ring.proofs.lemmas.fed_queues.Setup.{setup_row}
use Rattle.law_driver_ring.proofs.fed_queues.worked.a_setup_is_fed.Goals as goal

pub returns-clause-told : goal.returns-clause-told
returns-clause-told c = refl

pub returns-clause-fed : goal.returns-clause-fed
returns-clause-fed c = setup_row
