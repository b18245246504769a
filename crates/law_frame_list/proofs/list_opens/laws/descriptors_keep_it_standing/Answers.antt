use Rattle.law_frame_list.proofs.lemmas.list_opens.Described.{descriptors_keep_it_standing}
use Rattle.law_frame_list.proofs.list_opens.laws.descriptors_keep_it_standing.Goals as goal

pub returns : goal.returns
returns c = descriptors_keep_it_standing
