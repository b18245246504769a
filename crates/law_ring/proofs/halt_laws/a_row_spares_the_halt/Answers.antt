use Rattle.law_ring.proofs.HaltSparing.{halt_is_spared, halt_is_renumbered, store_keeps_halts, lend_keeps_halts, release_keeps_halts, fewer_keep_halts}
use Rattle.law_ring.proofs.halt_laws.a_row_spares_the_halt.Goals as goal

pub returns : goal.returns
returns c = record { spared = halt_is_spared; renumbered = halt_is_renumbered; stored = store_keeps_halts; lent = lend_keeps_halts; released = release_keeps_halts; fewer = fewer_keep_halts }
