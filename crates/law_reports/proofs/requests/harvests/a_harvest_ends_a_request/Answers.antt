use Rattle.law_reports.proofs.lemmas.requests.Ended.{harvest_reads_first, done_ends}
use Rattle.law_reports.proofs.lemmas.requests.Halted.{halt_ends}
use Rattle.law_reports.proofs.requests.harvests.a_harvest_ends_a_request.Goals as goal

pub returns : goal.returns
returns c = record { first = harvest_reads_first; done = done_ends; halts = halt_ends }
