use Rattle.law_world.proofs.lemmas.memory.lemmas.framed_memory.Harvesting.{harvest_keeps_now}
use Rattle.law_world.proofs.memory.framed_memory.row_laws.harvest_keeps_now.Goals as goal

pub returns : goal.returns
returns c = harvest_keeps_now
