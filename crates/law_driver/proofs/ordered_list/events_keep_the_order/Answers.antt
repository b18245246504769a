use Rattle.law_driver.proofs.lemmas.ordered_list.Events.{events_keep_the_order}
use Rattle.law_driver.proofs.ordered_list.events_keep_the_order.Goals as goal

pub returns : goal.returns
returns c = events_keep_the_order
