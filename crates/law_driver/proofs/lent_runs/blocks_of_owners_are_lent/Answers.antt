use Rattle.law_driver.proofs.lemmas.lent_runs.Laws.{owned_lent}
use Rattle.law_driver.proofs.lent_runs.blocks_of_owners_are_lent.Goals as goal

pub returns : goal.returns
returns c = λ d m owner stands idle old b k o placed has. owned_lent d m owner b k o stands idle old placed has
