use Rattle.law_driver.proofs.lemmas.listed_members.Owned.{members_have_runs}
use Rattle.law_driver.proofs.listed_members.members_have_runs.Goals as goal

pub returns : goal.returns
returns c = members_have_runs
