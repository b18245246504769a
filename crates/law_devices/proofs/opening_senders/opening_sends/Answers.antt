use Rattle.law_devices.proofs.lemmas.opening_senders.Opening.{opening_sends}
use Rattle.law_devices.proofs.opening_senders.opening_sends.Goals as goal

pub returns : goal.returns
returns c = opening_sends
