use Rattle.law_world.proofs.lemmas.streams.FeedingPassed.{passed_are_untold}
use Rattle.law_world.proofs.streams.feeding_laws.passed_are_untold.Goals as goal

pub returns : goal.returns
returns c = passed_are_untold
