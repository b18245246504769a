use Rattle.law_frames.proofs.QueueBacks.{starts_split, completes_split, stays_plain}
use Rattle.law_frames.proofs.queue_visit_laws.what_a_split_notes.Goals as goal

pub returns : goal.returns
returns c = record { starts = starts_split; completes = completes_split; plain = stays_plain }
