use Rattle.std.proofs.Common.{refl}
use Rattle.law_hub.proofs.worked.premises.Goals as goal

pub returns : goal.returns
returns c = record {
  ready = record { max = refl; naks = refl };
  setup = record { suited = refl; token_is = refl };
  packet = record { suited = refl; token_is = refl };
  status = record { suited = refl; token_is = refl };
  change = refl;
  read = refl;
  unknown = refl;
}
