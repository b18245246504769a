use Rattle.law_descriptors.proofs.Closing.{begin_meets_members}
use Rattle.law_descriptors.proofs.row_laws.begin_meets_members.Goals as goal

pub returns : goal.returns
returns c = begin_meets_members
