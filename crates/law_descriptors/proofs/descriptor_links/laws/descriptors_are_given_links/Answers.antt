use Rattle.law_descriptors.proofs.lemmas.descriptor_links.Links.{descriptors_are_given_links}
use Rattle.law_descriptors.proofs.descriptor_links.laws.descriptors_are_given_links.Goals as goal

pub returns : goal.returns
returns c = descriptors_are_given_links
