use Rattle.hc_microframe.proofs.CallsInRow as law
use Rattle.hc_microframe.proofs.laws.run_is_held_up.Goals as goal

pub returns : goal.returns
returns c = law.run_is_held_up
