use Rattle.law_queues.proofs.lemmas.lent_fronts.Row.{lend_row_leaves_fronts}
use Rattle.law_queues.proofs.lent_fronts.laws.a_transfer_is_lent_behind_the_front.Goals as goal

pub returns : goal.returns
returns g c = λ sender. lend_row_leaves_fronts sender
