use Rattle.law_reports.proofs.lemmas.requests.lemmas.below.Going.{controller_keeps_course_below}
use Rattle.law_reports.proofs.requests.below.the_controller_keeps_a_queue_below.Goals as goal

pub returns : goal.returns
returns c = controller_keeps_course_below
