use Rattle.law_world.proofs.lemmas.streams.FeedingCommands.{command_feeds}
use Rattle.law_world.proofs.streams.feeding_laws.command_feeds.Goals as goal

pub returns : goal.returns
returns c = command_feeds
