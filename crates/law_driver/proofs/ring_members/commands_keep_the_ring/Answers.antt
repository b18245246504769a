use Rattle.law_driver.proofs.lemmas.ring_members.Laws.{commands_keep_the_ring}
use Rattle.law_driver.proofs.ring_members.commands_keep_the_ring.Goals as goal

pub returns : goal.returns
returns c = commands_keep_the_ring
