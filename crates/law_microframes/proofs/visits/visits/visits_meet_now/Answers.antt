use Rattle.law_microframes.proofs.lemmas.visits.VisitMeeting.{visits_meet_now}
use Rattle.law_microframes.proofs.visits.visits.visits_meet_now.Goals as goal

pub returns : goal.returns
returns c = visits_meet_now
