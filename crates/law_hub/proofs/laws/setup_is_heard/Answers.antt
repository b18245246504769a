use Rattle.law_hub.proofs.Rows.{setup_reply, setup_after}
use Rattle.law_hub.proofs.laws.setup_is_heard.Goals as goal

pub returns : goal.returns
returns c = record { reply = setup_reply; after = setup_after }
