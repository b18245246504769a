use Rattle.law_driver_ring.proofs.lemmas.walk_members.Descriptions.{events_keep_the_numbers}
use Rattle.law_driver_ring.proofs.walk_members.numbers.events_keep_the_numbers.Goals as goal

pub returns : goal.returns
returns c = events_keep_the_numbers
