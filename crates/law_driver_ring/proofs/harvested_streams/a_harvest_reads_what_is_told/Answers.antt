use Rattle.law_driver_ring.proofs.lemmas.harvested_streams.Harvesting.{token_is_read, bytes_are_read, done_is_harvested}
use Rattle.law_driver_ring.proofs.harvested_streams.a_harvest_reads_what_is_told.Goals as goal

pub returns-clause-token : goal.returns-clause-token
returns-clause-token c = token_is_read

pub returns-clause-bytes : goal.returns-clause-bytes
returns-clause-bytes c = bytes_are_read

pub returns-clause-done : goal.returns-clause-done
returns-clause-done c = done_is_harvested
