use Rattle.law_hub.proofs.Answers.{change_has_no_data}
use Rattle.law_hub.proofs.Transfers.{change_reply, change_after}
use Rattle.law_hub.proofs.laws.change_is_made.Goals as goal

pub returns : goal.returns
returns c = record { no_data = change_has_no_data; reply = change_reply; after = change_after }
