use Rattle.law_frames.proofs.Backs.{received_put}
use Rattle.law_frames.proofs.sitd_back_laws.received_is_put.Goals as goal

pub returns : goal.returns
returns c = received_put
