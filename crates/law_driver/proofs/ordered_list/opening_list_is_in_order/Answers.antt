use Rattle.law_driver.proofs.lemmas.ordered_list.Commands.{opening_list_is_in_order}
use Rattle.law_driver.proofs.ordered_list.opening_list_is_in_order.Goals as goal

pub returns : goal.returns
returns c = opening_list_is_in_order
