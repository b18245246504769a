use Rattle.law_queues.proofs.lemmas.standing_fronts.Rows.{harvest_keeps_fronts}
use Rattle.law_queues.proofs.standing_fronts.laws.harvest_keeps_fronts.Goals as goal

pub returns : goal.returns
returns c = harvest_keeps_fronts
