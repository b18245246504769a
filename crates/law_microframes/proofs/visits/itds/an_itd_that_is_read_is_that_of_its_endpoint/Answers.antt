use Rattle.law_microframes.proofs.lemmas.visits.BelongItds.{itd_is_read, harvested_is_read}
use Rattle.law_microframes.proofs.visits.itds.an_itd_that_is_read_is_that_of_its_endpoint.Goals as goal

pub returns : goal.returns
returns c = record { read = itd_is_read; harvested = harvested_is_read }
