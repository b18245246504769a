use Rattle.law_descriptors.proofs.lemmas.list_beside.Linking.{told_stays}
use Rattle.law_descriptors.proofs.list_beside.laws.told_stays.Goals as goal

pub returns : goal.returns
returns c = told_stays
