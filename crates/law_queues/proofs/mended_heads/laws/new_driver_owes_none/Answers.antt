use Rattle.law_queues.proofs.lemmas.mended_heads.Standing.{new_driver_owes_none}
use Rattle.law_queues.proofs.mended_heads.laws.new_driver_owes_none.Goals as goal

pub returns : goal.returns
returns c = new_driver_owes_none
