use Rattle.law_resting.proofs.Events.{events_keep_counts}
use Rattle.law_resting.proofs.events_keep_counts.Goals as goal

pub returns : goal.returns
returns c = events_keep_counts
