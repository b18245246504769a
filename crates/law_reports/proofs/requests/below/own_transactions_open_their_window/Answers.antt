use Rattle.law_reports.proofs.lemmas.requests.lemmas.below.Opened.{own_transaction_opens}
use Rattle.law_reports.proofs.requests.below.own_transactions_open_their_window.Goals as goal

pub returns : goal.returns
returns c = own_transaction_opens
