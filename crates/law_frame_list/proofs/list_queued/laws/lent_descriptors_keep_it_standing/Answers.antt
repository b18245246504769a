use Rattle.law_frame_list.proofs.lemmas.list_queued.Lent.{lend_stands, lend_leads}
use Rattle.law_frame_list.proofs.list_queued.laws.lent_descriptors_keep_it_standing.Goals as goal

pub returns-clause-list : goal.returns-clause-list
returns-clause-list c = lend_stands

pub returns-clause-queued : goal.returns-clause-queued
returns-clause-queued c = lend_leads
