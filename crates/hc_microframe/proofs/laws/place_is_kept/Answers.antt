use Rattle.hc_microframe.proofs.Placing as placing
use Rattle.hc_microframe.proofs.laws.place_is_kept.Goals as goal

pub returns : goal.returns
returns c = placing.place_is_kept
