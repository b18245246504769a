use Rattle.law_driver.proofs.lemmas.listed_members.Events.{events_keep_the_list}
use Rattle.law_driver.proofs.listed_members.events_keep_the_list.Goals as goal

pub returns : goal.returns
returns c = events_keep_the_list
