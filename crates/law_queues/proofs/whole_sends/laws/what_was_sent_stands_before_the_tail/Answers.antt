use Rattle.law_queues.proofs.lemmas.whole_sends.Telling.{told_is_ahead, next_is_ahead}
use Rattle.law_queues.proofs.whole_sends.laws.what_was_sent_stands_before_the_tail.Goals as goal

pub returns : goal.returns
returns c = record { told = told_is_ahead; next = next_is_ahead }
