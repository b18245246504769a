use Rattle.law_frames.proofs.Writing.{write_back_keeps_visit}
use Rattle.law_frames.proofs.queue_visit_laws.write_back_keeps_visit.Goals as goal

pub returns : goal.returns
returns c = write_back_keeps_visit
