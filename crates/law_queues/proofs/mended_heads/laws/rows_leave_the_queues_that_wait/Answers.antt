use Rattle.law_queues.proofs.lemmas.mended_heads.Standing.{store_keeps_halted, link_keeps_halted, lend_keeps_halted, release_keeps_halted}
use Rattle.law_queues.proofs.mended_heads.laws.rows_leave_the_queues_that_wait.Goals as goal

pub returns : goal.returns
returns c = record { store = store_keeps_halted; link = link_keeps_halted; lend = lend_keeps_halted; release = release_keeps_halted }
