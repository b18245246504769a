use Rattle.law_reports.proofs.lemmas.requests.lemmas.below.Controlled.{controller_keeps_queue_below, controller_keeps_rest_below}
use Rattle.law_reports.proofs.lemmas.requests.lemmas.below.Controlled.{controller_keeps_left_below}
use Rattle.law_reports.proofs.requests.below.the_controller_keeps_control_endpoints_below.Goals as goal

pub returns : goal.returns
returns c = record { queue = controller_keeps_queue_below; rest = controller_keeps_rest_below; left = controller_keeps_left_below }
