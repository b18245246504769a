use Rattle.law_ring.proofs.FrontGoing.{front_is_spared, front_is_renumbered}
use Rattle.law_ring.proofs.front_laws.a_row_spares_the_front.Goals as goal

pub returns : goal.returns
returns c = record { spared = front_is_spared; renumbered = front_is_renumbered }
