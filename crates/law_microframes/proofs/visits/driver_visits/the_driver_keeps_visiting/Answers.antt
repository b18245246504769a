use Rattle.law_microframes.proofs.lemmas.visits.VisitsKept.{driver_keeps_visiting, command_keeps_visiting}
use Rattle.law_microframes.proofs.visits.driver_visits.the_driver_keeps_visiting.Goals as goal

pub returns : goal.returns
returns c = record { driver = driver_keeps_visiting; commands = command_keeps_visiting }
