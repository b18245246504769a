use Rattle.law_reports.proofs.lemmas.requests.lemmas.below.Moved.{moves_keep_course_below}
use Rattle.law_reports.proofs.requests.below.a_queue_below_moves.Goals as goal

pub returns : goal.returns
returns c = moves_keep_course_below
