use Rattle.law_queues.proofs.lemmas.cancelled_bytes.Counting.{qtd_is_counted}
use Rattle.law_queues.proofs.lemmas.cancelled_bytes.Transfers.{transfer_is_counted}
use Rattle.law_queues.proofs.cancelled_bytes.laws.a_transfer_is_counted.Goals as goal

pub returns-clause-qtd : goal.returns-clause-qtd
returns-clause-qtd c = qtd_is_counted

pub returns-clause-transfer : goal.returns-clause-transfer
returns-clause-transfer c = transfer_is_counted
