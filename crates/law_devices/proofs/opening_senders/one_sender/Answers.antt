use Rattle.std.proofs.Common.{refl}
use Rattle.law_devices.proofs.lemmas.opening_senders.Opening.{one_own}
use Rattle.law_devices.proofs.opening_senders.one_sender.Goals as goal

pub returns-clause-own : goal.returns-clause-own
returns-clause-own c = one_own _ _ refl (refl, tt)
