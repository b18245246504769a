use Rattle.law_queues.proofs.lemmas.standing_fronts.Reaching.{reaches_walk, reaches_idle_store, reaches_last_store}
use Rattle.law_queues.proofs.standing_fronts.laws.fronts_stay_before_tails.Goals as goal

pub returns : goal.returns
returns g c = record { walk = reaches_walk g.W.Wire.transacts; idle = reaches_idle_store; last = reaches_last_store }
