use Rattle.law_world.proofs.lemmas.memory.lemmas.framed_memory.NowRows.{unlink_keeps_now}
use Rattle.law_world.proofs.memory.framed_memory.now_laws.unlink_keeps_now.Goals as goal

pub returns : goal.returns
returns c = unlink_keeps_now
