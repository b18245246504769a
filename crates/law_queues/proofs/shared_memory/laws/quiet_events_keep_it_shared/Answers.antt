use Rattle.law_queues.proofs.lemmas.shared_memory.Sharing.{quiet_events_keep_it_shared}
use Rattle.law_queues.proofs.shared_memory.laws.quiet_events_keep_it_shared.Goals as goal

pub returns : goal.returns
returns c = quiet_events_keep_it_shared
