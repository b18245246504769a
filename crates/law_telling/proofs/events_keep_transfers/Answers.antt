use Rattle.law_telling.proofs.Passing.{events_keep_transfers}
use Rattle.law_telling.proofs.events_keep_transfers.Goals as goal

pub returns : goal.returns
returns c = events_keep_transfers
