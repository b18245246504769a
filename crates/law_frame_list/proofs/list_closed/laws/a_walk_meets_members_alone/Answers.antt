use Rattle.law_frame_list.proofs.lemmas.list_closed.Closing.{a_walk_meets_members_alone}
use Rattle.law_frame_list.proofs.list_closed.laws.a_walk_meets_members_alone.Goals as goal

pub returns : goal.returns
returns c = a_walk_meets_members_alone
