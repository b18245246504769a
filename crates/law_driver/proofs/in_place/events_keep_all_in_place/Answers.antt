use Rattle.law_driver.proofs.lemmas.in_place.Laws.{events_keep_all_in_place}
use Rattle.law_driver.proofs.in_place.events_keep_all_in_place.Goals as goal

pub returns : goal.returns
returns c = events_keep_all_in_place
