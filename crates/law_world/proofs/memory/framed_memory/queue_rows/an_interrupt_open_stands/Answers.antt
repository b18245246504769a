use Rattle.law_world.proofs.lemmas.memory.lemmas.framed_memory.ChainedRuns.{new_chain_stands, accepted_chain_stands, chained_head_is_in_range, chain_goes_on_now, other_chain_stands}
use Rattle.law_world.proofs.memory.framed_memory.queue_rows.an_interrupt_open_stands.Goals as goal

pub returns : goal.returns
returns c = record { built = new_chain_stands; accepted = accepted_chain_stands; range = chained_head_is_in_range; goes_on = chain_goes_on_now; other = other_chain_stands }
