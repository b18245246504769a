use Rattle.law_hub.proofs.Transfers.{unknown_reply, unknown_after}
use Rattle.law_hub.proofs.laws.unknown_is_stalled.Goals as goal

pub returns : goal.returns
returns c = record { reply = unknown_reply; after = unknown_after }
