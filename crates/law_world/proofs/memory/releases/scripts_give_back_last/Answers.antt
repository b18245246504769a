use Rattle.law_world.proofs.lemmas.memory.LetGo.{scripts_give_back_last}
use Rattle.law_world.proofs.memory.releases.scripts_give_back_last.Goals as goal

pub returns : goal.returns
returns c = scripts_give_back_last
