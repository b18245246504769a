use Rattle.law_driver.proofs.lemmas.listed_members.Accepted.{commands_keep_the_list}
use Rattle.law_driver.proofs.listed_members.commands_keep_the_list.Goals as goal

pub returns : goal.returns
returns c = commands_keep_the_list
