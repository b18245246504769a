use Rattle.law_frames.proofs.Backing.{itd_back_is}
use Rattle.law_frames.proofs.itd_back_laws.itd_is_written_back.Goals as goal

pub returns : goal.returns
returns c = itd_back_is
