use Rattle.law_device.proofs.Senders.{in_sends, in_toggle}
use Rattle.law_device.proofs.in_sends.Goals as goal

pub returns-clause-packet : goal.returns-clause-packet
returns-clause-packet c = in_sends

pub returns-clause-toggle : goal.returns-clause-toggle
returns-clause-toggle c = in_toggle
