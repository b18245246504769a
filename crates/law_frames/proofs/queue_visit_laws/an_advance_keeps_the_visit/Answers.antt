use Rattle.law_frames.proofs.Taking.{advance_stays, advance_is_only_there}
use Rattle.law_frames.proofs.queue_visit_laws.an_advance_keeps_the_visit.Goals as goal

pub returns : goal.returns
returns c = record { visit = advance_stays; only = advance_is_only_there }
