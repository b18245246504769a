use Rattle.law_reports.proofs.lemmas.requests.TransferHarvests.{done_is_ended}
use Rattle.law_reports.proofs.requests.transfer_laws.done_is_ended.Goals as goal

pub returns : goal.returns
returns c = done_is_ended
