use Rattle.std.proofs.Common.{◌∷◌, [], refl, arith}
use Rattle.law_controller.proofs.controlled_streams.published_worked.store_rows.Goals as goal

pub returns-clause-store : goal.returns-clause-store
returns-clause-store c = record {
  here = refl;
  idle = refl;
  before = 32 ∷ [];
  after = 96 ∷ [];
  out_is = refl;
  sorted = ((omega arith, (omega arith, tt)), ((omega arith, tt), (tt, tt)));
  later = record { next = λ b leads. cc; alternate = λ b leads. cc };
}
