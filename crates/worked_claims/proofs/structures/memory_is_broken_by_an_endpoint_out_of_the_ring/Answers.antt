use Rattle.worked_claims.proofs.Reading.{unlinked_breaks, out_breaks}
use Rattle.worked_claims.proofs.structures.memory_is_broken_by_an_endpoint_out_of_the_ring.Goals as goal

pub returns : goal.returns
returns c = record { store = unlinked_breaks; endpoint = out_breaks }
