use Rattle.drv_chains.proofs.Readings.{seen_is}
use Rattle.drv_chains.proofs.laws.a_boundary_is_two_frames.Goals as goal

pub returns : goal.returns
returns c = seen_is
