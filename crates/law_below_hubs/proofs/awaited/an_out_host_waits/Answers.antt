use Rattle.law_below_hubs.proofs.WorkedAwaited.{none_awaited, start_awaited, result_awaited, unstarted_breaks}
use Rattle.law_below_hubs.proofs.awaited.an_out_host_waits.Goals as goal

pub returns-clause-none : goal.returns-clause-none
returns-clause-none c = none_awaited

pub returns-clause-start : goal.returns-clause-start
returns-clause-start c = start_awaited

pub returns-clause-result : goal.returns-clause-result
returns-clause-result c = result_awaited

pub returns-clause-breaks : goal.returns-clause-breaks
returns-clause-breaks c = unstarted_breaks
