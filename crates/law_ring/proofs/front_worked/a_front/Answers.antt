use Rattle.law_ring.proofs.FrontSampled.{links_rise, has_front}
use Rattle.law_ring.proofs.front_worked.a_front.Goals as goal

pub returns : goal.returns
returns c = record { rise = links_rise; front = has_front }
