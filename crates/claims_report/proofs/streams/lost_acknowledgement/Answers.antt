use Rattle.std.proofs.Common.{[], ◌∷◌, length, refl, ap, arith}
use Rattle.claims_report.proofs.streams.lost_acknowledgement.Goals as goal

pub returns : goal.returns
returns c = record {
  stream = refl;
  taken = refl;
  right = (record { bytes = ((3 ∷ 4 ∷ [], refl), ([], refl)); once = refl; whole = refl }, tt);
  not_counted = λ h. omega (arith, ap length h.0.bytes.0.1);
}
