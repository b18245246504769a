use Rattle.law_microframes.proofs.lemmas.visits.BelongItdRows.{driver_keeps_itd_fields}
use Rattle.law_microframes.proofs.lemmas.visits.BelongServed.{driver_keeps_itds}
use Rattle.law_microframes.proofs.visits.itds.the_driver_leaves_the_fields_of_itds.Goals as goal

pub returns : goal.returns
returns c = record { fields = driver_keeps_itd_fields; stand = driver_keeps_itds }
