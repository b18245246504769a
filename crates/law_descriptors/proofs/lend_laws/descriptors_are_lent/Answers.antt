use Rattle.law_descriptors.proofs.Lends.{lend_leaves}
use Rattle.law_descriptors.proofs.Told.{lend_describes}
use Rattle.law_descriptors.proofs.lend_laws.descriptors_are_lent.Goals as goal

pub returns : goal.returns
returns c = record { leaves = lend_leaves; described = lend_describes }
