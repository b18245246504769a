use Rattle.law_descriptors.proofs.lemmas.list_beside.Linking.{a_driver_has_its_links}
use Rattle.law_descriptors.proofs.list_beside.laws.a_driver_has_its_links.Goals as goal

pub returns : goal.returns
returns c = a_driver_has_its_links
