use Rattle.law_microframes.proofs.lemmas.visits.CommandVisits.{command_leaves_visits}
use Rattle.law_microframes.proofs.visits.driver_visits.command_leaves_visits.Goals as goal

pub returns : goal.returns
returns c = command_leaves_visits
