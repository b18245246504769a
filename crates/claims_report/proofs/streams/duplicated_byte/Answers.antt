use Rattle.std.proofs.Common.{length, ap, arith}
use Rattle.claims_report.proofs.streams.duplicated_byte.Goals as goal

pub returns : goal.returns
returns c = record {
  told_twice = λ h. omega (arith, ap length h.0.bytes.1);
  taken_twice = λ h. omega (arith, ap length h.0.bytes.1.1);
}
