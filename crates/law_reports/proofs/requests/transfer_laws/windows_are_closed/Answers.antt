use Rattle.law_reports.proofs.lemmas.requests.TransferChanging.{first_is_closed, last_is_closed, all_are_closed}
use Rattle.law_reports.proofs.requests.transfer_laws.windows_are_closed.Goals as goal

pub returns : goal.returns
returns c = record { first = first_is_closed; last = last_is_closed; all = all_are_closed }
