use Rattle.law_world.proofs.lemmas.streams.FedRows.{row_keeps_left}
use Rattle.law_world.proofs.streams.kept.row_keeps_left.Goals as goal

pub returns : goal.returns
returns c = row_keeps_left
