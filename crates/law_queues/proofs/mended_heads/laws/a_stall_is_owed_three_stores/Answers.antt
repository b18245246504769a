use Rattle.law_queues.proofs.lemmas.mended_heads.Stalling.{stall_is_halted, halt_stops_queue, harvest_keeps_mends}
use Rattle.law_queues.proofs.mended_heads.laws.a_stall_is_owed_three_stores.Goals as goal

pub returns : goal.returns
returns c = record { halted = stall_is_halted; stops = halt_stops_queue; harvest = harvest_keeps_mends }
