use Rattle.law_translator.proofs.Watching.{the_watch_only_watches}
use Rattle.law_translator.proofs.laws.the_watch_only_watches.Goals as goal

pub returns : goal.returns
returns c = the_watch_only_watches
