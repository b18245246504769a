use Rattle.law_descriptors.proofs.lemmas.list_beside.Linking.{links_of_a_list_stay}
use Rattle.law_descriptors.proofs.list_beside.laws.links_of_a_list_stay.Goals as goal

pub returns : goal.returns
returns c = links_of_a_list_stay
