use Rattle.law_below_hubs.proofs.AwaitedKeys.{own_splits_are_awaited, others_leave_key}
use Rattle.law_below_hubs.proofs.AwaitedBegins.{begin_leaves_key}
use Rattle.law_below_hubs.proofs.awaited.a_host_awaits_answers.Goals as goal

pub returns : goal.returns
returns c = record { own = own_splits_are_awaited; others = others_leave_key; begins = begin_leaves_key }
