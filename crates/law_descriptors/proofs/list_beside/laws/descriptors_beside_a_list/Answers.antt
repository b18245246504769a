use Rattle.law_descriptors.proofs.lemmas.list_beside.Describing.{described_is_told, described_are_kept}
use Rattle.law_descriptors.proofs.list_beside.laws.descriptors_beside_a_list.Goals as goal

pub returns : goal.returns
returns c = record { told = described_is_told; kept = described_are_kept }
