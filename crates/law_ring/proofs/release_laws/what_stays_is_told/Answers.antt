use Rattle.law_ring.proofs.Returning.{fewer_are_told, freed_is_told}
use Rattle.law_ring.proofs.release_laws.what_stays_is_told.Goals as goal

pub returns : goal.returns
returns c = record { fewer = fewer_are_told; freed = freed_is_told }
