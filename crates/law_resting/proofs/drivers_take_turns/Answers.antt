use Rattle.law_resting.proofs.Turns.{drivers_take_turns}
use Rattle.law_resting.proofs.drivers_take_turns.Goals as goal

pub returns : goal.returns
returns c = drivers_take_turns
