use Rattle.law_frame_list.proofs.lemmas.list_closed.Closing.{members_lead_to_members}
use Rattle.law_frame_list.proofs.list_closed.laws.members_lead_to_members.Goals as goal

pub returns : goal.returns
returns c = members_lead_to_members
