use Rattle.law_world.proofs.lemmas.streams.FeedingStores.{store_feeds}
use Rattle.law_world.proofs.streams.feeding_laws.store_feeds.Goals as goal

pub returns : goal.returns
returns c = store_feeds
