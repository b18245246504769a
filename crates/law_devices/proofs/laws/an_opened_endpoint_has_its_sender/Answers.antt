use Rattle.law_devices.proofs.Senders.{an_opened_endpoint_has_its_sender}
use Rattle.law_devices.proofs.laws.an_opened_endpoint_has_its_sender.Goals as goal

pub returns : goal.returns
returns c = an_opened_endpoint_has_its_sender
