use Rattle.law_microframes.proofs.lemmas.time.RingSpliced.{open_store_joins}
use Rattle.law_microframes.proofs.time.ring_splices.open_store_joins.Goals as goal

pub returns : goal.returns
returns c = open_store_joins
