use Rattle.law_frame_list.proofs.lemmas.list_commands.Commanding.{opens_and_cancels_keep_it_standing}
use Rattle.law_frame_list.proofs.list_commands.laws.opens_and_cancels_keep_it_standing.Goals as goal

pub returns : goal.returns
returns c = opens_and_cancels_keep_it_standing
