use Rattle.law_device.proofs.Receivers.{out_takes}
use Rattle.law_device.proofs.out_takes.Goals as goal

pub returns : goal.returns
returns c = out_takes
