use Rattle.law_frames.proofs.Backs.{sitd_is_sent}
use Rattle.law_frames.proofs.sitd_back_laws.sitd_is_sent.Goals as goal

pub returns : goal.returns
returns c = sitd_is_sent
