use Rattle.law_driver_ring.proofs.Beside.{opened_stays, stranger_stays}
use Rattle.law_driver_ring.proofs.lend_laws.a_new_endpoint_stays.Goals as goal

pub returns : goal.returns
returns g c = record {
  kept = opened_stays;
  unmet = λ base member parts hand p wire after new kind n k h off. stranger_stays g.W.Wire.transacts base member parts hand p wire after h.now h.later kind n k h.effect off;
}
