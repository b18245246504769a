use Rattle.law_descriptors.proofs.Growing.{stores_keep_members, members_stay_met}
use Rattle.law_descriptors.proofs.row_laws.those_that_are_met_stay_met.Goals as goal

pub returns : goal.returns
returns c = record { store = stores_keep_members; met = members_stay_met }
