use Rattle.law_reports.proofs.lemmas.requests.lemmas.world_requests.Telling.{recorded_at_first, recorded_of_more}
use Rattle.law_reports.proofs.requests.world_requests.nothing_is_recorded_before_it_is_begun.Goals as goal

pub returns : goal.returns
returns c = record { first = recorded_at_first; next = recorded_of_more }
