use Rattle.law_queues.proofs.lemmas.standing_fronts.Returning.{release_leaves_tails}
use Rattle.law_queues.proofs.standing_fronts.laws.release_leaves_tails.Goals as goal

pub returns : goal.returns
returns c = release_leaves_tails
