use Rattle.law_translated.proofs.Settling.{transaction_is_an_event}
use Rattle.law_translated.proofs.windows.a_transaction_is_an_event.Goals as goal

pub returns : goal.returns
returns c = λ e r. transaction_is_an_event e r
