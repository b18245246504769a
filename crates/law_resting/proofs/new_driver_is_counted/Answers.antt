use Rattle.law_resting.proofs.Commands.{new_driver_is_counted}
use Rattle.law_resting.proofs.new_driver_is_counted.Goals as goal

pub returns : goal.returns
returns c = new_driver_is_counted
