use Rattle.law_queues.proofs.lemmas.whole_sends.Sampled.{more_behind, end_behind}
use Rattle.law_queues.proofs.whole_sends.worked.a_transfer_behind.Goals as goal

pub returns : goal.returns
returns c = record { more = more_behind; end = end_behind }
