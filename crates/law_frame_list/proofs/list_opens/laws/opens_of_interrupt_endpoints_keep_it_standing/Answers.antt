use Rattle.law_frame_list.proofs.lemmas.list_opens.Linked.{opens_of_interrupt_endpoints_keep_it_standing}
use Rattle.law_frame_list.proofs.list_opens.laws.opens_of_interrupt_endpoints_keep_it_standing.Goals as goal

pub returns : goal.returns
returns c = opens_of_interrupt_endpoints_keep_it_standing
