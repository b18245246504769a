use Rattle.hc_microframe.proofs.CallsInRow as law
use Rattle.hc_microframe.proofs.laws.calls_are_run.Goals as goal

pub returns : goal.returns
returns c = law.calls_are_run
