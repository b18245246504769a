use Rattle.law_microframes.proofs.lemmas.time.CommandRounds.{command_leaves_rounds}
use Rattle.law_microframes.proofs.time.driver_rounds.command_leaves_rounds.Goals as goal

pub returns : goal.returns
returns c = command_leaves_rounds
