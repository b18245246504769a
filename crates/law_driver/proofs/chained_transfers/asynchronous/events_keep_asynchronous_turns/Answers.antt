use Rattle.law_driver.proofs.lemmas.chained_transfers.Events.{events_keep_asynchronous_turns}
use Rattle.law_driver.proofs.chained_transfers.asynchronous.events_keep_asynchronous_turns.Goals as goal

pub returns : goal.returns
returns c = events_keep_asynchronous_turns
