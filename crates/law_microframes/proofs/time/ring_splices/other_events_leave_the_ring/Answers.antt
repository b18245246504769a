use Rattle.law_microframes.proofs.lemmas.time.RingSpliced.{each_row_leaves_reached, rows_leave_links}
use Rattle.law_microframes.proofs.time.ring_splices.other_events_leave_the_ring.Goals as goal

pub returns : goal.returns
returns c = record { reached = each_row_leaves_reached; links = rows_leave_links }
