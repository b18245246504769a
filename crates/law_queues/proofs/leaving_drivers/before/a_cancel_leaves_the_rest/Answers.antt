use Rattle.law_queues.proofs.lemmas.leaving_drivers.Leaving.{cancel_is_as_before, unlink_is_as_before}
use Rattle.law_queues.proofs.leaving_drivers.before.a_cancel_leaves_the_rest.Goals as goal

pub returns-clause-cancel : goal.returns-clause-cancel
returns-clause-cancel c = cancel_is_as_before

pub returns-clause-unlink : goal.returns-clause-unlink
returns-clause-unlink c = unlink_is_as_before
