use Rattle.law_queues.proofs.lemmas.leaving_drivers.Telling.{refusals_tell_nothing}
use Rattle.law_queues.proofs.leaving_drivers.told.refusals_tell_nothing.Goals as goal

pub returns : goal.returns
returns c = refusals_tell_nothing
