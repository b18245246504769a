use Rattle.law_resting.proofs.Turns.{waiting_is_no_turn}
use Rattle.law_resting.proofs.worked.turns_are_broken_by_waiting.Goals as goal

pub returns : goal.returns
returns c = waiting_is_no_turn
