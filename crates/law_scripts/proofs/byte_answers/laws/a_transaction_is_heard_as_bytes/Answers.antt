use Rattle.law_scripts.proofs.lemmas.byte_answers.Buses.{reply_bytes, transact_bytes}
use Rattle.law_scripts.proofs.byte_answers.laws.a_transaction_is_heard_as_bytes.Goals as goal

pub returns : goal.returns
returns c = record { heard = reply_bytes; left = transact_bytes }
