use Rattle.std.proofs.Common.{[], inl, inr, refl}
use Rattle.std.specs.Fmt.{digits}
use Rattle.hex.specs.Hex.{encode_with}
use Rattle.claims_report.proofs.requests.done_and_stalled.Goals as goal

pub returns : goal.returns
unfolding digits encode_with
returns c = record {
  sent = refl;
  nothing_sent = refl;
  right = record {
    numbered = refl;
    once = (inr refl, (inl refl, tt));
    lines_told = ((refl, refl), (([], refl), tt));
    counted = refl;
  };
  text = refl;
}
