use Rattle.law_frame_list.proofs.lemmas.list_closed.Closing.{elements_lead_to_members}
use Rattle.law_frame_list.proofs.list_closed.laws.elements_lead_to_members.Goals as goal

pub returns : goal.returns
returns c = elements_lead_to_members
