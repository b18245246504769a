use Rattle.law_driver.proofs.lemmas.in_place.Elsewhere.{the_controller_keeps_all_in_place}
use Rattle.law_driver.proofs.in_place.the_controller_keeps_all_in_place.Goals as goal

pub returns : goal.returns
returns c = the_controller_keeps_all_in_place
