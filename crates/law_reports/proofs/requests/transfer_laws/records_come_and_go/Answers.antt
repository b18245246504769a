use Rattle.law_reports.proofs.lemmas.requests.TransferChanging.{new_is_recorded, course_is_gone}
use Rattle.law_reports.proofs.requests.transfer_laws.records_come_and_go.Goals as goal

pub returns : goal.returns
returns c = record { begins = new_is_recorded; leaves = course_is_gone }
