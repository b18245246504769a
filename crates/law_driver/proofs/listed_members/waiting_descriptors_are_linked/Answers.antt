use Rattle.law_driver.proofs.lemmas.listed_members.Owned.{waiting_descriptors_are_linked}
use Rattle.law_driver.proofs.listed_members.waiting_descriptors_are_linked.Goals as goal

pub returns : goal.returns
returns c = waiting_descriptors_are_linked
