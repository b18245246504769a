use Rattle.law_frame_list.proofs.lemmas.list_driver.Rows.{a_new_driver_keeps_its_list}
use Rattle.law_frame_list.proofs.list_driver.laws.a_new_driver_keeps_its_list.Goals as goal

pub returns : goal.returns
returns c = a_new_driver_keeps_its_list
