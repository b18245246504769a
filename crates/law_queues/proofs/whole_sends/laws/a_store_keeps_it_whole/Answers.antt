use Rattle.law_queues.proofs.lemmas.whole_sends.Keeping.{idle_store_is_whole, last_store_is_whole}
use Rattle.law_queues.proofs.whole_sends.laws.a_store_keeps_it_whole.Goals as goal

pub returns : goal.returns
returns c = record { idle = idle_store_is_whole; last = last_store_is_whole }
