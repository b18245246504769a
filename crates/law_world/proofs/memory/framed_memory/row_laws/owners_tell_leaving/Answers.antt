use Rattle.law_world.proofs.lemmas.memory.lemmas.framed_memory.Ended.{owners_tell_leaving}
use Rattle.law_world.proofs.memory.framed_memory.row_laws.owners_tell_leaving.Goals as goal

pub returns : goal.returns
returns c = owners_tell_leaving
