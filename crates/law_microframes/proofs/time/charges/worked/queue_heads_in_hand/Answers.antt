use Rattle.std.proofs.Common.{refl, arith}
use Rattle.law_microframes.proofs.time.charges.worked.queue_heads_in_hand.Goals as goal

pub returns-clause-begun : goal.returns-clause-begun
returns-clause-begun c = record {
  head = record { speed = refl; kind = refl; high = refl; max = refl; multi = refl; smask = refl };
  few = omega arith;
  pid = λ e. omega arith;
  room = omega arith;
  own = λ some. refl;
}

pub returns-clause-full : goal.returns-clause-full
returns-clause-full c = record {
  of = record {
    head = record { speed = refl; kind = refl; high = refl; max = refl; multi = refl; smask = refl };
    few = omega arith;
    pid = λ e. omega arith;
    room = omega arith;
    own = λ some. refl;
  };
  charged = omega arith;
}

pub returns-clause-other : goal.returns-clause-other
returns-clause-other c = record {
  head = record { speed = refl; kind = refl; high = refl; max = refl; multi = refl; smask = refl };
  few = omega arith;
  pid = λ e. omega arith;
  room = omega arith;
  own = λ some. absurd (omega (arith, some));
}

pub returns-clause-taken : goal.returns-clause-taken
returns-clause-taken c = λ a t e. absurd (grind (arith, e))
