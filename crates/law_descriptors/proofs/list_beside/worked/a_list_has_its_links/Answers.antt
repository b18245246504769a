use Rattle.law_descriptors.proofs.lemmas.list_beside.Sampled.{sample_links}
use Rattle.law_descriptors.proofs.list_beside.worked.a_list_has_its_links.Goals as goal

pub returns : goal.returns
returns c = sample_links
