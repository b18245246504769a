use Rattle.law_world.proofs.lemmas.memory.lemmas.framed_memory.ChainedLent.{chain_lends, chain_comes_first, chain_links_on}
use Rattle.law_world.proofs.memory.framed_memory.queue_rows.an_interrupt_queue_comes_to_its_frames.Goals as goal

pub returns : goal.returns
returns c = record { lent = chain_lends; first = chain_comes_first; further = chain_links_on }
