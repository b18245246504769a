use Rattle.std.proofs.Common.{refl, arith}
use Rattle.hc_iso.specs.Itd.{fetched_itd}
use Rattle.law_microframes.proofs.time.charges.worked.descriptors_in_hand.Goals as goal

pub returns-clause-own : goal.returns-clause-own
unfolding fetched_itd
returns-clause-own c = record {
  of = record {
    descriptor = record { speed = refl; kind = refl; max = refl };
    packets = omega arith;
    room = omega arith;
    slot = refl;
    placed = λ e. refl;
    own = λ some. refl;
  };
  charged = omega arith;
}

pub returns-clause-other : goal.returns-clause-other
unfolding fetched_itd
returns-clause-other c = record {
  of = record {
    descriptor = record { speed = refl; kind = refl; max = refl };
    packets = omega arith;
    room = omega arith;
    slot = refl;
    placed = λ e. absurd (grind (arith, e));
    own = λ some. absurd (omega (arith, some));
  };
  charged = omega arith;
}
