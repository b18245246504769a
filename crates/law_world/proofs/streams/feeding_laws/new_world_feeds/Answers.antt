use Rattle.law_world.proofs.lemmas.streams.FeedingOpening.{new_world_feeds}
use Rattle.law_world.proofs.streams.feeding_laws.new_world_feeds.Goals as goal

pub returns : goal.returns
returns c = new_world_feeds
