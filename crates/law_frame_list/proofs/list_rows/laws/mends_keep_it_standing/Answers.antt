use Rattle.law_frame_list.proofs.lemmas.list_rows.Mending.{mends_keep_it_standing}
use Rattle.law_frame_list.proofs.list_rows.laws.mends_keep_it_standing.Goals as goal

pub returns : goal.returns
returns c = mends_keep_it_standing
