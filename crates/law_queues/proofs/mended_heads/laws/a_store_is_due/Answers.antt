use Rattle.law_queues.proofs.lemmas.mended_heads.Row.{mend_is_due, mend_row, mend_keeps_mends}
use Rattle.law_queues.proofs.mended_heads.laws.a_store_is_due.Goals as goal

pub returns : goal.returns
returns c = record { due = mend_is_due; row = mend_row; left = mend_keeps_mends }
