use Rattle.std.proofs.Common.{refl}
use Rattle.law_reports.proofs.lemmas.requests.lemmas.world_requests.Sampling.{first_transfers, second_transfers, none_recorded}
use Rattle.law_reports.proofs.requests.world_requests.worked.two_requests_are_transfers.Goals as goal

pub returns : goal.returns
returns c = record { first = first_transfers; second = second_transfers; recorded = none_recorded; numbers = refl }
