use Rattle.law_ring.proofs.SparedSparing.{spared_pipes_agree}
use Rattle.law_ring.proofs.spared_laws.spared_pipes_agree.Goals as goal

pub returns : goal.returns
returns g c = spared_pipes_agree
