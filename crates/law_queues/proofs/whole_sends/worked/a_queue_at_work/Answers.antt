use Rattle.std.proofs.Common.{refl}
use Rattle.law_queues.proofs.lemmas.whole_sends.Sampled.{sent_whole, is_member, are_outs, accounts, is_next}
use Rattle.law_queues.proofs.whole_sends.worked.a_queue_at_work.Goals as goal

pub returns : goal.returns
returns c = record { whole = sent_whole; member = is_member; outs = are_outs; accounts = accounts; next = is_next; ahead = refl; all = refl }
