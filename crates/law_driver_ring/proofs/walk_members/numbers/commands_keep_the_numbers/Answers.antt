use Rattle.law_driver_ring.proofs.lemmas.walk_members.Descriptions.{commands_keep_the_numbers}
use Rattle.law_driver_ring.proofs.walk_members.numbers.commands_keep_the_numbers.Goals as goal

pub returns : goal.returns
returns c = commands_keep_the_numbers
