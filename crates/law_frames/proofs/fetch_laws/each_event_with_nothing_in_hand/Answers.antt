use Rattle.law_frames.proofs.Fetching.{each_event_with_nothing_in_hand}
use Rattle.law_frames.proofs.fetch_laws.each_event_with_nothing_in_hand.Goals as goal

pub returns : goal.returns
returns g c = each_event_with_nothing_in_hand g.W.Wire.transacts
