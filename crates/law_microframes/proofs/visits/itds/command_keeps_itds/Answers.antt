use Rattle.law_microframes.proofs.lemmas.visits.BelongItdAll.{command_keeps_itds}
use Rattle.law_microframes.proofs.visits.itds.command_keeps_itds.Goals as goal

pub returns : goal.returns
returns c = command_keeps_itds
