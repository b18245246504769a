use Rattle.law_frames.proofs.Turned.{transacted_is_in_hand}
use Rattle.law_frames.proofs.sitd_back_laws.transacted_is_in_hand.Goals as goal

pub returns : goal.returns
returns c = transacted_is_in_hand
