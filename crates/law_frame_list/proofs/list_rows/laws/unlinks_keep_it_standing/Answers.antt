use Rattle.law_frame_list.proofs.lemmas.list_rows.Unlinked.{unlinks_keep_it_standing}
use Rattle.law_frame_list.proofs.list_rows.laws.unlinks_keep_it_standing.Goals as goal

pub returns : goal.returns
returns c = unlinks_keep_it_standing
