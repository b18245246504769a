use Rattle.law_frames.proofs.Hands.{where_nothing_is_met_nothing_is_in_hand}
use Rattle.law_frames.proofs.part_laws.where_nothing_is_met_nothing_is_in_hand.Goals as goal

pub returns : goal.returns
returns c = where_nothing_is_met_nothing_is_in_hand
