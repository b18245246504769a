use Rattle.law_queues.proofs.lemmas.whole_sends.Keeping.{spared_is_whole, returned_is_whole, renumbered_is_whole, added_is_whole}
use Rattle.law_queues.proofs.whole_sends.laws.a_step_keeps_it_whole.Goals as goal

pub returns : goal.returns
returns c = record { spared = spared_is_whole; returned = returned_is_whole; renumbered = renumbered_is_whole; added = added_is_whole }
