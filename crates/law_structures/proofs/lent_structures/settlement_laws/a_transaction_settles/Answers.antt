use Rattle.law_structures.proofs.lemmas.lent_structures.Settling.{a_transaction_settles}
use Rattle.law_structures.proofs.lent_structures.settlement_laws.a_transaction_settles.Goals as goal

pub returns : goal.returns
returns c = a_transaction_settles
