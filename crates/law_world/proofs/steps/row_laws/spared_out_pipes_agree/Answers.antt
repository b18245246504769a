use Rattle.law_world.proofs.lemmas.steps.Spared.{spared_out_pipes_agree}
use Rattle.law_world.proofs.steps.row_laws.spared_out_pipes_agree.Goals as goal

pub returns : goal.returns
returns g c = spared_out_pipes_agree
