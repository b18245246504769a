use Rattle.law_controller.proofs.lemmas.frame_stores.Parting.{met_element_may_change, met_element_may_come, met_buffer_may_come, met_element_may_go, met_buffer_may_go}
use Rattle.law_controller.proofs.frame_stores.laws.what_a_met_part_may_become.Goals as goal

pub returns : goal.returns
returns c = record { change = met_element_may_change; element = met_element_may_come; buffer = met_buffer_may_come; element_gone = met_element_may_go; buffer_gone = met_buffer_may_go }
