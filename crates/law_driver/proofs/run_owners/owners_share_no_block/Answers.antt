use Rattle.law_driver.proofs.lemmas.run_owners.Laws.{owners_share_no_block}
use Rattle.law_driver.proofs.run_owners.owners_share_no_block.Goals as goal

pub returns : goal.returns
returns c = owners_share_no_block
