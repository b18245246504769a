use Rattle.law_queues.proofs.lemmas.fed_events.Beside.{fed_stays_beside, last_stays_beside}
use Rattle.law_queues.proofs.fed_events.laws.queues_stay_fed_beside_the_controller.Goals as goal

pub returns : goal.returns
returns c = record { fed = fed_stays_beside; last = last_stays_beside }
