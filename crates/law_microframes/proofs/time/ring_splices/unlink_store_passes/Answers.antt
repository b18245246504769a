use Rattle.law_microframes.proofs.lemmas.time.RingSpliced.{unlink_store_passes}
use Rattle.law_microframes.proofs.time.ring_splices.unlink_store_passes.Goals as goal

pub returns : goal.returns
returns c = unlink_store_passes
