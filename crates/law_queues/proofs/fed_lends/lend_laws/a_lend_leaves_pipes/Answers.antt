use Rattle.law_queues.proofs.lemmas.fed_lends.Piping.{lend_leaves_pipes}
use Rattle.law_queues.proofs.fed_lends.lend_laws.a_lend_leaves_pipes.Goals as goal

pub returns : goal.returns
returns g c = λ sender. lend_leaves_pipes sender
