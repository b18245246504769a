use Rattle.law_queues.proofs.lemmas.leaving_drivers.Leaving.{clear_is_as_before}
use Rattle.law_queues.proofs.leaving_drivers.before.clear_is_as_before.Goals as goal

pub returns : goal.returns
returns c = clear_is_as_before
