use Rattle.law_frames.proofs.Backing.{itd_is_sent}
use Rattle.law_frames.proofs.itd_back_laws.itd_is_sent.Goals as goal

pub returns : goal.returns
returns c = itd_is_sent
