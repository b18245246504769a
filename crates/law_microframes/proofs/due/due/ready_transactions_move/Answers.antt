use Rattle.law_microframes.proofs.lemmas.due.Answering.{ready_transactions_move}
use Rattle.law_microframes.proofs.due.due.ready_transactions_move.Goals as goal

pub returns : goal.returns
returns c = ready_transactions_move
