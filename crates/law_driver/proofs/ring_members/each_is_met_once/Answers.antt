use Rattle.law_driver.proofs.lemmas.ring_members.Placed.{each_is_met_once}
use Rattle.law_driver.proofs.ring_members.each_is_met_once.Goals as goal

pub returns : goal.returns
returns c = each_is_met_once
