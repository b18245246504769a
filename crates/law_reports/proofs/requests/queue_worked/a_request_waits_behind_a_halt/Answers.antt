use Rattle.law_reports.proofs.lemmas.requests.SampledHalts.{stopped, halted_stands, behind_rests, behind_stands, goes_on_stands}
use Rattle.law_reports.proofs.requests.queue_worked.a_request_waits_behind_a_halt.Goals as goal

pub returns : goal.returns
returns c = record { stopped = stopped; halted = halted_stands; rests = behind_rests; behind = behind_stands; goes_on = goes_on_stands }
