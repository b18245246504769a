use Rattle.law_driver.proofs.lemmas.in_place.Laws.{commands_keep_all_in_place}
use Rattle.law_driver.proofs.in_place.commands_keep_all_in_place.Goals as goal

pub returns : goal.returns
returns c = commands_keep_all_in_place
