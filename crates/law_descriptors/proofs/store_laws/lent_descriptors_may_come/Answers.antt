use Rattle.law_descriptors.proofs.ListComing.{lent_comes}
use Rattle.law_descriptors.proofs.ListFresh.{waiting_is_fresh}
use Rattle.law_descriptors.proofs.store_laws.lent_descriptors_may_come.Goals as goal

pub returns : goal.returns
returns c = record { lent = lent_comes; fresh = waiting_is_fresh }
