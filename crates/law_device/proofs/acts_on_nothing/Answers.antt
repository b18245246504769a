use Rattle.law_device.proofs.Once.{acts_on_nothing}
use Rattle.law_device.proofs.acts_on_nothing.Goals as goal

pub returns : goal.returns
returns c = acts_on_nothing
