use Rattle.law_reports.proofs.lemmas.requests.Telling.{harvest_tells, stall_tells}
use Rattle.law_reports.proofs.requests.report_laws.a_harvest_tells_of_the_first.Goals as goal

pub returns : goal.returns
returns c = record { ends = harvest_tells; stalls = stall_tells }
