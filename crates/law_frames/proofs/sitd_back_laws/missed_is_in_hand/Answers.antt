use Rattle.law_frames.proofs.Turned.{missed_is_in_hand}
use Rattle.law_frames.proofs.sitd_back_laws.missed_is_in_hand.Goals as goal

pub returns : goal.returns
returns c = missed_is_in_hand
