use Rattle.std.proofs.Common.{length, ap, arith}
use Rattle.claims_report.proofs.Apart.{other_setup, same_number}
use Rattle.claims_report.proofs.requests.wrong_acts.Goals as goal

pub returns : goal.returns
returns c = record {
  never = λ h. omega (arith, ap length h.lines_told.0.0);
  twice = λ h. omega (arith, ap length h.lines_told.0.0);
  other = λ h. other_setup h.once.1.0;
  count = λ h. omega (arith, same_number 2 1 h.counted);
}
