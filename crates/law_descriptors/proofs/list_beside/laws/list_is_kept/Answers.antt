use Rattle.law_descriptors.proofs.lemmas.list_beside.Linking.{list_is_kept}
use Rattle.law_descriptors.proofs.list_beside.laws.list_is_kept.Goals as goal

pub returns : goal.returns
returns c = list_is_kept
