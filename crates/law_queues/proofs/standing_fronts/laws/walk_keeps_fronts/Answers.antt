use Rattle.law_queues.proofs.lemmas.standing_fronts.Walking.{walk_keeps_fronts}
use Rattle.law_queues.proofs.standing_fronts.laws.walk_keeps_fronts.Goals as goal

pub returns : goal.returns
returns g c = walk_keeps_fronts g.W.Wire.transacts
