use Rattle.law_queues.proofs.lemmas.released_queues.Releasing.{release_feeds, release_keeps_met}
use Rattle.law_queues.proofs.released_queues.laws.a_release_leaves_queues_fed.Goals as goal

pub returns : goal.returns
returns c = record { feeds = release_feeds; met = release_keeps_met }
