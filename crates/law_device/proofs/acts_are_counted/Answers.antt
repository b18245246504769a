use Rattle.law_device.proofs.Once.{acts_are_counted}
use Rattle.law_device.proofs.acts_are_counted.Goals as goal

pub returns : goal.returns
returns c = acts_are_counted
