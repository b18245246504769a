use Rattle.law_driver.proofs.lemmas.ordered_list.Commands.{commands_keep_the_order}
use Rattle.law_driver.proofs.ordered_list.commands_keep_the_order.Goals as goal

pub returns : goal.returns
returns c = commands_keep_the_order
