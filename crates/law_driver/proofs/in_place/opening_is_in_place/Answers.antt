use Rattle.law_driver.proofs.lemmas.in_place.Opened.{opening_is_in_place}
use Rattle.law_driver.proofs.in_place.opening_is_in_place.Goals as goal

pub returns : goal.returns
returns c = opening_is_in_place
