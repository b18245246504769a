use Rattle.law_world.proofs.lemmas.memory.lemmas.framed_memory.NowRows.{link_keeps_now}
use Rattle.law_world.proofs.memory.framed_memory.now_laws.link_keeps_now.Goals as goal

pub returns : goal.returns
returns c = link_keeps_now
