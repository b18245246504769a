use Rattle.law_resting.proofs.Commands.{commands_keep_counts}
use Rattle.law_resting.proofs.commands_keep_counts.Goals as goal

pub returns : goal.returns
returns c = commands_keep_counts
