use Rattle.law_driver.proofs.lemmas.listed_members.Opening.{opening_list_has_its_members}
use Rattle.law_driver.proofs.listed_members.opening_list_has_its_members.Goals as goal

pub returns : goal.returns
returns c = opening_list_has_its_members
