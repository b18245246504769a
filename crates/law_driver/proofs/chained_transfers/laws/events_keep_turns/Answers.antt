use Rattle.law_driver.proofs.lemmas.chained_transfers.Events.{events_keep_turns}
use Rattle.law_driver.proofs.chained_transfers.laws.events_keep_turns.Goals as goal

pub returns : goal.returns
returns c = events_keep_turns
