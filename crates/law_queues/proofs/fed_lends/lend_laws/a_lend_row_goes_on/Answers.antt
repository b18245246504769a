use Rattle.law_queues.proofs.lemmas.fed_lends.Row.{lend_row_goes_on}
use Rattle.law_queues.proofs.fed_lends.lend_laws.a_lend_row_goes_on.Goals as goal

pub returns : goal.returns
returns g c = λ sender. lend_row_goes_on sender
