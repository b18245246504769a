use Rattle.law_driver.proofs.lemmas.in_place.Elsewhere.{a_run_stays_in_place}
use Rattle.law_driver.proofs.in_place.a_run_stays_in_place.Goals as goal

pub returns : goal.returns
returns c = a_run_stays_in_place
