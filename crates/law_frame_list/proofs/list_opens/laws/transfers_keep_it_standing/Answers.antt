use Rattle.law_frame_list.proofs.lemmas.list_opens.Sending.{transfers_keep_it_standing}
use Rattle.law_frame_list.proofs.list_opens.laws.transfers_keep_it_standing.Goals as goal

pub returns : goal.returns
returns c = transfers_keep_it_standing
