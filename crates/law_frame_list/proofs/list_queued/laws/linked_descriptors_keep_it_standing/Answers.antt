use Rattle.law_frame_list.proofs.lemmas.list_queued.Linked.{link_stands, link_leads}
use Rattle.law_frame_list.proofs.list_queued.laws.linked_descriptors_keep_it_standing.Goals as goal

pub returns-clause-list : goal.returns-clause-list
returns-clause-list c = link_stands

pub returns-clause-queued : goal.returns-clause-queued
returns-clause-queued c = link_leads
