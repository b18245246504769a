use Rattle.drv_chains.proofs.ByClass.{chain_of_classes}
use Rattle.drv_chains.proofs.laws.classes_make_the_chains.Goals as goal

pub returns : goal.returns
returns c = chain_of_classes
