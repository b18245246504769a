use Rattle.law_device.proofs.Once.{acts_once}
use Rattle.law_device.proofs.acts_once.Goals as goal

pub returns : goal.returns
returns c = acts_once
