use Rattle.law_queues.proofs.lemmas.lent_fronts.Row.{lend_stands, lend_is_asked, lend_is_made}
use Rattle.law_queues.proofs.lent_fronts.laws.a_transfer_is_lent_to_any_queue.Goals as goal

pub returns : goal.returns
returns c = record { stands = lend_stands; asked = lend_is_asked; made = lend_is_made }
