use Rattle.law_descriptors.proofs.Storing.{standing_descriptors_are_met}
use Rattle.law_descriptors.proofs.row_laws.standing_descriptors_are_met.Goals as goal

pub returns : goal.returns
returns c = standing_descriptors_are_met
