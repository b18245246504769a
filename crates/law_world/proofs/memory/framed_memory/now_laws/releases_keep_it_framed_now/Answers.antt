use Rattle.law_world.proofs.lemmas.memory.lemmas.framed_memory.NowRows.{release_keeps_now, waiting_keeps_now}
use Rattle.law_world.proofs.memory.framed_memory.now_laws.releases_keep_it_framed_now.Goals as goal

pub returns : goal.returns
returns c = record { descriptor = release_keeps_now; waiting = waiting_keeps_now }
