use Rattle.law_frame_list.proofs.lemmas.list_stands.Listing.{quiet_events_keep_it_standing}
use Rattle.law_frame_list.proofs.list_stands.laws.quiet_events_keep_it_standing.Goals as goal

pub returns : goal.returns
returns c = quiet_events_keep_it_standing
