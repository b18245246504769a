use Rattle.drv_chains.proofs.Search.{found}
use Rattle.drv_chains.proofs.laws.classes_find_the_words.Goals as goal

pub returns : goal.returns
returns c = found
