use Rattle.law_frame_list.proofs.lemmas.list_closed.Closing.{members_stand_in_their_first_frame}
use Rattle.law_frame_list.proofs.list_closed.laws.members_stand_in_their_first_frame.Goals as goal

pub returns : goal.returns
returns c = members_stand_in_their_first_frame
