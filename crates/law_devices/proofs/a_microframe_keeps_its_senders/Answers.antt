use Rattle.law_devices.proofs.Beginning.{a_microframe_keeps_its_senders}
use Rattle.law_devices.proofs.a_microframe_keeps_its_senders.Goals as goal

pub returns : goal.returns
returns c = a_microframe_keeps_its_senders
