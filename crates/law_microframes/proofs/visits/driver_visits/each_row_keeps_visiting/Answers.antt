use Rattle.law_microframes.proofs.lemmas.visits.DriverTogether.{each_row_keeps_visiting}
use Rattle.law_microframes.proofs.visits.driver_visits.each_row_keeps_visiting.Goals as goal

pub returns : goal.returns
returns c = each_row_keeps_visiting
