use Rattle.law_queues.proofs.lemmas.standing_fronts.Alike.{alike_keep_fronts, idle_store_keeps_fronts, last_store_keeps_fronts}
use Rattle.law_queues.proofs.standing_fronts.laws.other_rows_leave_fronts.Goals as goal

pub returns : goal.returns
returns c = record { alike = alike_keep_fronts; store = idle_store_keeps_fronts; last = last_store_keeps_fronts }
