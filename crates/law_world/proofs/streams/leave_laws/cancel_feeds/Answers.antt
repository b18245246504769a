use Rattle.law_world.proofs.lemmas.streams.Cancelling.{cancel_feeds}
use Rattle.law_world.proofs.streams.leave_laws.cancel_feeds.Goals as goal

pub returns : goal.returns
returns c = cancel_feeds
