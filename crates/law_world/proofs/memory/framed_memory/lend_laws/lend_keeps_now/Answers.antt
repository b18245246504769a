use Rattle.law_world.proofs.lemmas.memory.lemmas.framed_memory.Lending.{lend_keeps_now}
use Rattle.law_world.proofs.memory.framed_memory.lend_laws.lend_keeps_now.Goals as goal

pub returns : goal.returns
returns c = lend_keeps_now
