use Rattle.law_world.proofs.lemmas.memory.lemmas.owned_blocks.Busy.{reported_owned, waiting_owned, slots_owned}
use Rattle.law_world.proofs.memory.owned_blocks.worked.runs_of_descriptors.Goals as goal

pub returns : goal.returns
returns c = record { reported = reported_owned; waiting = waiting_owned; buffer = slots_owned }
