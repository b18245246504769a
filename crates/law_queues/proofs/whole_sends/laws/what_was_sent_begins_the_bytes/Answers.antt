use Rattle.law_queues.proofs.lemmas.whole_sends.Telling.{told_is_in_order, next_is_in_order, all_is_told, nothing_past_halted}
use Rattle.law_queues.proofs.whole_sends.laws.what_was_sent_begins_the_bytes.Goals as goal

pub returns : goal.returns
returns c = record { told = told_is_in_order; next = next_is_in_order; all = all_is_told; past = nothing_past_halted }
