use Rattle.law_queues.proofs.lemmas.whole_sends.Sampled.{sent_in_hand, acknowledged, in_hand}
use Rattle.law_queues.proofs.whole_sends.worked.a_transaction_in_hand.Goals as goal

pub returns : goal.returns
returns c = record { hand = sent_in_hand; ends = acknowledged; whole = in_hand }
