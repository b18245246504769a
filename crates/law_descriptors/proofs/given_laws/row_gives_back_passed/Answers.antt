use Rattle.law_descriptors.proofs.GivenRow.{row_gives_back_passed}
use Rattle.law_descriptors.proofs.given_laws.row_gives_back_passed.Goals as goal

pub returns : goal.returns
returns c = row_gives_back_passed
