use Rattle.drv_chains.proofs.OneLink.{one_link}
use Rattle.drv_chains.proofs.laws.one_link_serves_all_frames.Goals as goal

pub returns : goal.returns
returns c = one_link
