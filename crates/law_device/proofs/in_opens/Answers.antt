use Rattle.law_device.proofs.Senders.{in_opens}
use Rattle.law_device.proofs.in_opens.Goals as goal

pub returns : goal.returns
returns c = in_opens
