use Rattle.law_descriptors.proofs.lemmas.list_beside.Linking.{written_elsewhere}
use Rattle.law_descriptors.proofs.list_beside.laws.written_elsewhere.Goals as goal

pub returns : goal.returns
returns c = written_elsewhere
