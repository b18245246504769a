use Rattle.law_queues.proofs.lemmas.leaving_drivers.Unmet.{cleared_are_unmet, gone_are_unmet}
use Rattle.law_queues.proofs.leaving_drivers.laws.those_out_of_reach.Goals as goal

pub returns-clause-cleared : goal.returns-clause-cleared
returns-clause-cleared c = cleared_are_unmet

pub returns-clause-gone : goal.returns-clause-gone
returns-clause-gone c = gone_are_unmet
