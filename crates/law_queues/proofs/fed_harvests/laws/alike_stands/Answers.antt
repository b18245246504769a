use Rattle.law_queues.proofs.lemmas.fed_harvests.Like.{alike_stands}
use Rattle.law_queues.proofs.fed_harvests.laws.alike_stands.Goals as goal

pub returns : goal.returns
returns c = alike_stands
