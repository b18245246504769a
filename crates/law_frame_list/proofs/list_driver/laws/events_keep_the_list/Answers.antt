use Rattle.law_frame_list.proofs.lemmas.list_driver.Rows.{events_keep_the_list}
use Rattle.law_frame_list.proofs.list_driver.laws.events_keep_the_list.Goals as goal

pub returns : goal.returns
returns c = events_keep_the_list
