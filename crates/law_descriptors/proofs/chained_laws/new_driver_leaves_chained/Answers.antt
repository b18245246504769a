use Rattle.law_descriptors.proofs.Chained.{new_driver_leaves_chained}
use Rattle.law_descriptors.proofs.chained_laws.new_driver_leaves_chained.Goals as goal

pub returns : goal.returns
returns c = new_driver_leaves_chained
