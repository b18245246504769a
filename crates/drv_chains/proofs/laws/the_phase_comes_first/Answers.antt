use Rattle.drv_chains.proofs.First.{queue_first}
use Rattle.drv_chains.proofs.laws.the_phase_comes_first.Goals as goal

pub returns : goal.returns
returns c = queue_first
