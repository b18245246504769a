use Rattle.law_reports.proofs.lemmas.requests.lemmas.below.MovedSampled.{before, moves, moved_so, after, acted_breaks}
use Rattle.law_reports.proofs.requests.below.a_first_request_below_is_published.Goals as goal

pub returns : goal.returns
returns c = record { before = before; moves = moves; so = moved_so; after = after; acted = acted_breaks }
