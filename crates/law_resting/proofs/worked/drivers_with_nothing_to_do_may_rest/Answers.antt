use Rattle.law_resting.proofs.Samples.{new_driver_may_rest, waits_may_rest}
use Rattle.law_resting.proofs.worked.drivers_with_nothing_to_do_may_rest.Goals as goal

pub returns : goal.returns
returns c = record { new = new_driver_may_rest; done = waits_may_rest }
