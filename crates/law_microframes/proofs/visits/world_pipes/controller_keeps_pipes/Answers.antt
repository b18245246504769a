use Rattle.law_microframes.proofs.lemmas.visits.WorldPipes.{controller_keeps_pipes}
use Rattle.law_microframes.proofs.visits.world_pipes.controller_keeps_pipes.Goals as goal

pub returns : goal.returns
returns c = controller_keeps_pipes
