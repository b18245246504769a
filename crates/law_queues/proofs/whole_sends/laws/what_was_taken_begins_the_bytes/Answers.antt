use Rattle.law_queues.proofs.lemmas.whole_sends.Takers.{taken_is_in_order, taken_is_ahead}
use Rattle.law_queues.proofs.whole_sends.laws.what_was_taken_begins_the_bytes.Goals as goal

pub returns : goal.returns
returns c = record { all = taken_is_in_order; ahead = taken_is_ahead }
