use Rattle.law_world.proofs.lemmas.memory.lemmas.framed_memory.ChainedLent.{chain_becomes_ready, chain_ready_stays}
use Rattle.law_world.proofs.memory.framed_memory.queue_rows.an_interrupt_open_is_to_be_lent.Goals as goal

pub returns : goal.returns
returns c = record { ready = chain_becomes_ready; stays = chain_ready_stays }
