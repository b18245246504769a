use Rattle.law_device.proofs.Receivers.{out_opens}
use Rattle.law_device.proofs.out_opens.Goals as goal

pub returns : goal.returns
returns c = out_opens
