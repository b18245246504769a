use Rattle.law_queues.proofs.lemmas.whole_sends.Sampled.{halted_whole, accounts_halted}
use Rattle.law_queues.proofs.whole_sends.worked.a_halted_queue.Goals as goal

pub returns : goal.returns
returns c = record { whole = halted_whole; accounts = accounts_halted }
