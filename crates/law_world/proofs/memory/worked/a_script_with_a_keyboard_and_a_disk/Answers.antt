use Rattle.law_world.proofs.lemmas.memory.Sampled.{two_are_mixed}
use Rattle.law_world.proofs.memory.worked.a_script_with_a_keyboard_and_a_disk.Goals as goal

pub returns : goal.returns
returns c = two_are_mixed
