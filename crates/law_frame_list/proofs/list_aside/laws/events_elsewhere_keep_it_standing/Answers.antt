use Rattle.law_frame_list.proofs.lemmas.list_aside.Elsewhere.{events_elsewhere_keep_it_standing}
use Rattle.law_frame_list.proofs.list_aside.laws.events_elsewhere_keep_it_standing.Goals as goal

pub returns : goal.returns
returns c = events_elsewhere_keep_it_standing
