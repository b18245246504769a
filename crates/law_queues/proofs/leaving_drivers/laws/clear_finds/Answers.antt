use Rattle.law_queues.proofs.lemmas.leaving_drivers.Clearing.{clear_finds}
use Rattle.law_queues.proofs.leaving_drivers.laws.clear_finds.Goals as goal

pub returns : goal.returns
returns c = clear_finds
