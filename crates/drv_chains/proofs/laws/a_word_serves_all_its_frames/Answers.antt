use Rattle.drv_chains.proofs.Following.{follows}
use Rattle.drv_chains.proofs.laws.a_word_serves_all_its_frames.Goals as goal

pub returns : goal.returns
returns c = follows
