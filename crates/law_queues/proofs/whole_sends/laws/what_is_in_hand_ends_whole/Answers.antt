use Rattle.law_queues.proofs.lemmas.whole_sends.Keeping.{linked_ends_whole, stale_ends_whole, stranger_ends_whole}
use Rattle.law_queues.proofs.whole_sends.laws.what_is_in_hand_ends_whole.Goals as goal

pub returns : goal.returns
returns c = record { linked = linked_ends_whole; stale = stale_ends_whole; stranger = stranger_ends_whole }
